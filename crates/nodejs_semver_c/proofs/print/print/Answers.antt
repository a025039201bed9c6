use Rattle.std.proofs.Common.{arith}
use Rattle.nodejs_semver_c.proofs.Putting.{printed}
use Rattle.nodejs_semver_c.proofs.print.print.Goals as goal

pub returns : goal.returns
returns g c = printed _ _ _ _ c.put.ensures _ _ c.counted-needed.ensures
    (omega (arith, c.if-needed-gt-MOST_BYTES.false)) (omega (arith, c.if-out-needed.false))
