use Rattle.nodejs_semver.proofs.Common.{IsMaxOf, accepts, false, list_all, option_copied, take}
use Rattle.nodejs_semver.proofs.range.RangeOf.max_satisfying_all.Given as goal

abbrev pub invariant-loop-version : goal.invariant-loop-version
invariant-loop-version g l = IsMaxOf g.W.Versioned.value (λ v. list_all (λ range. accepts range v false) l.ranges) (take l.version-index l.versions) (option_copied l.best)
