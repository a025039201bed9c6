use Rattle.std.proofs.Common.{inl, inr, refl}
use Rattle.nodejs_semver_c.proofs.sets.nodejs_semver_range_allows_any.Goals as goal

pub returns-in-Err-range : goal.returns-in-Err-range
returns-in-Err-range c = inl (c.in-Ok.found, c.in-Ok.ensures.ok, inr (c.in-Err-range.ensures.refused, refl))
