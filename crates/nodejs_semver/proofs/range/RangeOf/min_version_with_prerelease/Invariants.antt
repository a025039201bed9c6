use Rattle.nodejs_semver.proofs.Common.{accepts, least_of, spans_of, take, true, ◌≡◌}
use Rattle.nodejs_semver.proofs.Questions.Least.{firsts_past}
use Rattle.nodejs_semver.proofs.range.RangeOf.min_version_with_prerelease.Given as goal

abbrev pub invariant-loop-interval : goal.invariant-loop-interval
invariant-loop-interval g l =
    let value = g.V.Versioned.value in
    l.best ≡ least_of (λ v. accepts (spans_of value l.intervals) v true)
    (firsts_past (spans_of value (take l.interval-index l.intervals)))
