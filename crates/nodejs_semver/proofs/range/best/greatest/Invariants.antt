use Rattle.nodejs_semver.proofs.Common.{IsMaxOf, accepts, option_copied, spans_of, take}
use Rattle.nodejs_semver.proofs.range.best.greatest.Given as goal

abbrev pub invariant-loop-version : goal.invariant-loop-version
invariant-loop-version g l = IsMaxOf g.W.Versioned.value (λ v. accepts (spans_of g.V.Versioned.value l.intervals) v l.include)
    (take l.version-index l.versions) (option_copied l.best)
