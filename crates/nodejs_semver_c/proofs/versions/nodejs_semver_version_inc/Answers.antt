use Rattle.std.proofs.Common.{inl, inr, refl}
use Rattle.nodejs_semver_c.proofs.versions.nodejs_semver_version_inc.Goals as goal

pub returns-in-Err-text : goal.returns-in-Err-text
returns-in-Err-text c = inl (c.in-Ok.found, c.in-Ok.ensures.ok, inr (c.in-Err-text.ensures.refused, (refl, refl)))
