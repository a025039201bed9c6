use Rattle.std.proofs.Common.{◌≡◌, ◌++◌, string_bytes}
use Rattle.std.specs.List.{flat_map}
use Rattle.lock_check.specs.Reports.{in_ascii}
use Rattle.lock_check.proofs.json.write_ascii.Given as goal

abbrev pub invariant-loop-letter : goal.invariant-loop-letter
invariant-loop-letter l = string_bytes l.output ≡ string_bytes l.initial.output ++ flat_map in_ascii l.yielded
