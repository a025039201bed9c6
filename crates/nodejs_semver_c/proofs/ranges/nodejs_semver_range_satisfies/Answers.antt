use Rattle.std.proofs.Common.{inl, refl}
use Rattle.nodejs_semver_c.proofs.ranges.nodejs_semver_range_satisfies.Goals as goal

pub returns : goal.returns
returns c = inl (_, c.in-Some.ensures, inl (_, c.in-Some-common_version.ensures.0, (refl, c.is_accepted.ensures)))
