use Rattle.std.proofs.Common.{◌≡◌, take}
use Rattle.lock_check.specs.Outlooks.{count_in}
use Rattle.lock_check.proofs.outlook.count_in.Given as goal

abbrev pub invariant-loop-outlook : goal.invariant-loop-outlook
invariant-loop-outlook l = l.count ≡ count_in l.class (take l.outlook-index l.outlooks)
