use Rattle.std.proofs.Common.{inr, refl}
use Rattle.nodejs_semver_c.proofs.found.nodejs_semver_version_coerce.Goals as goal

pub returns-in-None : goal.returns-in-None
returns-in-None c =
    let read = c.in-Ok.ensures.ok in
    inr (inr (refl, read.1, rw read.0 at c.in-None.ensures.none), (refl, refl))
