use Rattle.std.proofs.Common.{◌≡◌, ◌++◌, filter, map, take}
use Rattle.lock_check.specs.Findings.{is_told, kind_of}
use Rattle.lock_check.specs.Rows.{told_finding, told_row}
use Rattle.lock_check.proofs.row.add_findings.Given as goal

abbrev pub invariant-loop-finding : goal.invariant-loop-finding
invariant-loop-finding l = map told_row l.rows.items ≡ map told_row l.initial.rows.items
    ++ map told_finding (filter (λ f. is_told l.is_quiet (kind_of f.outcome)) (take l.finding-index l.findings))
