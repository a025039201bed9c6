use Rattle.std.proofs.Common.{refl}
use Rattle.npm_semver.specs.Listing.IsGiven.{trimmed, whole}
use Rattle.npm_semver.proofs.reading.ReadOptions.given.Goals as goal

pub returns-in-None : goal.returns-in-None
returns-in-None c = trimmed _ (rw c.in-None.is refl) c.trim.ensures.middle

pub returns-in-Some : goal.returns-in-Some
returns-in-Some c = whole (rw c.in-Some.is refl)
