use Rattle.std.proofs.Common.{inl, inr, refl}
use Rattle.nodejs_semver_c.proofs.kept_sets.nodejs_semver_is_subset.Goals as goal

pub returns-in-Err-kept_range : goal.returns-in-Err-kept_range
returns-in-Err-kept_range c =
    inl (c.in-Ok.found, c.in-Ok.ensures.ok, inr (c.in-Err-kept_range.ensures.refused, refl))

pub returns-in-Ok-is_subset : goal.returns-in-Ok-is_subset
returns-in-Ok-is_subset c = inl (
  c.in-Ok.found,
  c.in-Ok.ensures.ok,
  inl (c.in-Ok-kept_range.found, c.in-Ok-kept_range.ensures.ok, inl (refl, c.in-Ok-is_subset.ensures.subset)),
)
