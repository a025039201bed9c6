use Rattle.std.proofs.Common.{inl, inr, refl}
use Rattle.nodejs_semver_c.proofs.subsets.nodejs_semver_range_union.Goals as goal

pub returns-in-Err-range : goal.returns-in-Err-range
returns-in-Err-range c = inl (c.in-Ok.found, c.in-Ok.ensures.ok, inr (c.in-Err-range.ensures.refused, (refl, refl)))
