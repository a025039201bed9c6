use Rattle.std.proofs.Common.{◌≡◌, ◌++◌, filter, map, take}
use Rattle.lock_check.specs.Outlooks.{class_of, is_shown, told_outlook, told_outlook_row}
use Rattle.lock_check.proofs.outlook_row.add_outlooks.Given as goal

abbrev pub invariant-loop-outlook : goal.invariant-loop-outlook
invariant-loop-outlook l = map told_outlook_row l.rows.items
    ≡ map told_outlook_row l.initial.rows.items ++ map told_outlook (filter (λ o. is_shown l.is_quiet (class_of o.standing)) (take l.outlook-index l.outlooks))
