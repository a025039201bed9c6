use Rattle.std.proofs.Common.{◌≡◌, ◌++◌, string_bytes, take}
use Rattle.std.specs.List.{flat_map}
use Rattle.lock_check.specs.Outlooks.{outlook_text}
use Rattle.lock_check.proofs.outlook_row.write_outlooks.Given as goal

abbrev pub invariant-loop-row : goal.invariant-loop-row
invariant-loop-row l =
    string_bytes l.output ≡ string_bytes l.initial.output ++ flat_map (outlook_text l.is_json l.file) (take l.row-index l.rows)
