use Rattle.std.proofs.Common.{◌≡◌, ◌∷◌, ◌++◌, map, string_bytes, take}
use Rattle.std.specs.List.{flat_map}
use Rattle.npm_semver.specs.Responses.{quoted, shown}
use Rattle.npm_semver.proofs.run.write_others.Given as goal

abbrev pub invariant-loop-entry : goal.invariant-loop-entry
invariant-loop-entry l =
    string_bytes l.output ≡ string_bytes l.initial.output ++ flat_map (λ t. 44 ∷ quoted t) (map (shown l.as_written) (take l.entry-index l.entries))
