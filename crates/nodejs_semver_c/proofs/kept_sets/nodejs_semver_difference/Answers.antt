use Rattle.std.proofs.Common.{inl, inr, refl}
use Rattle.nodejs_semver_c.proofs.kept_sets.nodejs_semver_difference.Goals as goal

pub returns-in-Err-kept_range : goal.returns-in-Err-kept_range
returns-in-Err-kept_range c =
    inl (c.in-Ok.found, c.in-Ok.ensures.ok, inr (c.in-Err-kept_range.ensures.refused, (refl, refl, refl, refl)))

pub returns-in-Ok-difference : goal.returns-in-Ok-difference
returns-in-Ok-difference c = inl (
  c.in-Ok.found,
  c.in-Ok.ensures.ok,
  inl (c.in-Ok-kept_range.found, c.in-Ok-kept_range.ensures.ok, inl (rw c.in-Ok-difference.ensures.list at c.tell_found.ensures)),
)
