use Rattle.nodejs_semver_c.proofs.Releases.{prints}
use Rattle.nodejs_semver_c.proofs.read.is_printed_release.Goals as goal

pub returns-then-reading-le-READING_NPM_LOOSE : goal.returns-then-reading-le-READING_NPM_LOOSE
returns-then-reading-le-READING_NPM_LOOSE c = λ k.
    prints _ _ _ c.if-reading-le-READING_NPM_LOOSE.true c.release.ensures (rw c.is_some.ensures at k)
