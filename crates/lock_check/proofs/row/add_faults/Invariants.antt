use Rattle.std.proofs.Common.{◌≡◌, ◌++◌, map, take}
use Rattle.lock_check.specs.Rows.{told_fault, told_row}
use Rattle.lock_check.proofs.row.add_faults.Given as goal

abbrev pub invariant-loop-fault : goal.invariant-loop-fault
invariant-loop-fault l =
    map told_row l.rows.items ≡ map told_row l.initial.rows.items ++ map told_fault (take l.fault-index l.faults)
