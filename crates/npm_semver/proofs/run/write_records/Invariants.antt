use Rattle.std.proofs.Common.{◌≡◌, ◌++◌, map, string_bytes, take}
use Rattle.std.specs.List.{flat_map}
use Rattle.npm_semver.specs.Responses.{ended, shown}
use Rattle.npm_semver.proofs.run.write_records.Given as goal

abbrev pub invariant-loop-entry : goal.invariant-loop-entry
invariant-loop-entry l =
    string_bytes l.output ≡ string_bytes l.initial.output ++ flat_map (ended l.question.ends_in_nul) (map (shown l.question.as_written) (take l.entry-index l.entries))
