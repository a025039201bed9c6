use Rattle.std.proofs.Common.{arith, ◌∙◌}
use Rattle.semver_core.proofs.Common.{nat_tests}
use Rattle.nodejs_semver_c.proofs.Cutting.{piece_step}
use Rattle.nodejs_semver_c.proofs.dotted.piece_end.Goals as goal

pub bytes-preserved : goal.bytes-preserved
bytes-preserved c = c.bytes.invariant ∙ piece_step _ c.args.text.now c.bytes.end c.bytes-test.true (grind (arith, nat_tests, c.if-text-end-eq46.false))
