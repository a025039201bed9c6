use Rattle.std.proofs.Common.{inl, inr, refl}
use Rattle.nodejs_semver_c.proofs.subsets.nodejs_semver_range_accepts_same.Goals as goal

pub returns-in-Err-range : goal.returns-in-Err-range
returns-in-Err-range c = inl (c.in-Ok.found, c.in-Ok.ensures.ok, inr (c.in-Err-range.ensures.refused, refl))

pub returns-in-Ok-accepts_same : goal.returns-in-Ok-accepts_same
returns-in-Ok-accepts_same c = inl (
  c.in-Ok.found,
  c.in-Ok.ensures.ok,
  inl (c.in-Ok-range.found, c.in-Ok-range.ensures.ok, inl (refl, c.in-Ok-accepts_same.ensures.same)),
)
