use Rattle.std.proofs.Common.{inl, inr, refl}
use Rattle.nodejs_semver_c.proofs.versions.nodejs_semver_version_diff.Goals as goal

pub returns-in-Err-version : goal.returns-in-Err-version
returns-in-Err-version c = inl (c.in-Ok.found, c.in-Ok.ensures.ok, inr (c.in-Err-version.ensures.refused, refl))
