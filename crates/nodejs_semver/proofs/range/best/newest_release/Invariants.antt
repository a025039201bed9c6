use Rattle.nodejs_semver.proofs.Common.{IsMaxOf, is_release, option_copied, take}
use Rattle.nodejs_semver.proofs.range.best.newest_release.Given as goal

abbrev pub invariant-loop-version : goal.invariant-loop-version
invariant-loop-version g l = IsMaxOf g.W.Versioned.value is_release (take l.version-index l.versions) (option_copied l.best)
