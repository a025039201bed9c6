use Rattle.std.proofs.Common.{◌≡◌, ◌++◌, string_bytes}
use Rattle.std.specs.List.{flat_map}
use Rattle.lock_check.specs.Reports.{command_escaped}
use Rattle.lock_check.proofs.annotation.write_text.Given as goal

abbrev pub invariant-loop-letter : goal.invariant-loop-letter
invariant-loop-letter l =
    string_bytes l.output ≡ string_bytes l.initial.output ++ flat_map (command_escaped l.is_property) l.yielded
