use Rattle.std.proofs.Common.{inr, refl}
use Rattle.nodejs_semver_c.proofs.found.nodejs_semver_version_clean.Goals as goal

pub returns-in-Err-clean : goal.returns-in-Err-clean
returns-in-Err-clean c =
    let read = c.in-Ok.ensures.ok in
    inr (inr (refl, read.1, rw read.0 at c.in-Err-clean.ensures.refused), (refl, refl))
