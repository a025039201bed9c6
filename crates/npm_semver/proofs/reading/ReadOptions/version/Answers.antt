use Rattle.npm_semver.proofs.ReadTexts.{no_version_in}
use Rattle.npm_semver.proofs.reading.ReadOptions.version.Goals as goal

pub returns-clause-none : goal.returns-clause-none
returns-clause-none c = no_version_in _ _ _ _ c.in_ok-part.ensures c.version_as.ensures.none
