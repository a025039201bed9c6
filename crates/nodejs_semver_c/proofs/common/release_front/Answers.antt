use Rattle.std.proofs.Common.{arith, refl, sym}
use Rattle.nodejs_semver_c.proofs.common.release_front.Goals as goal

pub returns : goal.returns
returns c = (
  omega (arith, c.if-text-gt-MAX_LENGTH.false),
  refl,
  refl,
  _,
  _,
  sym c.in_ok-major.ensures.value,
  sym c.in_ok-minor.ensures.value,
  sym c.in_ok-patch.ensures.value,
)
