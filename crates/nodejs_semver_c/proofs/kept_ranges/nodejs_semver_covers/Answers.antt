use Rattle.std.proofs.Common.{inl, inr, refl}
use Rattle.nodejs_semver_c.proofs.kept_ranges.nodejs_semver_covers.Goals as goal

pub returns-in-Err-kept_range : goal.returns-in-Err-kept_range
returns-in-Err-kept_range c = inl (c.in-Ok.found, c.in-Ok.ensures.ok, inr (c.in-Err-kept_range.ensures.refused, refl))
