use Rattle.std.proofs.Common.{◌≡◌, ◌++◌, string_bytes, take}
use Rattle.std.specs.List.{flat_map}
use Rattle.lock_check.specs.Reports.{row_text}
use Rattle.lock_check.proofs.report.write_rows.Given as goal

abbrev pub invariant-loop-row : goal.invariant-loop-row
invariant-loop-row l =
    string_bytes l.output ≡ string_bytes l.initial.output ++ flat_map (row_text l.format l.file) (take l.row-index l.rows)
