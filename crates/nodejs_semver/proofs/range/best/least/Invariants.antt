use Rattle.nodejs_semver.proofs.Common.{IsMinOf, accepts, option_copied, spans_of, take}
use Rattle.nodejs_semver.proofs.range.best.least.Given as goal

abbrev pub invariant-loop-version : goal.invariant-loop-version
invariant-loop-version g l = IsMinOf g.W.Versioned.value (λ v. accepts (spans_of g.V.Versioned.value l.intervals) v l.include)
    (take l.version-index l.versions) (option_copied l.best)
