use Rattle.std.proofs.Common.{arith}
use Rattle.nodejs_semver.proofs.Common.{nat_tests}
use Rattle.nodejs_semver_c.proofs.Releases.{release_is}
use Rattle.nodejs_semver_c.proofs.common.release.Goals as goal

pub returns : goal.returns
returns c = release_is _ _ c.in_ok-release.release c.in_ok-release.ensures (grind (arith, nat_tests))
