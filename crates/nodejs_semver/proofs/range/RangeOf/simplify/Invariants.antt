use Rattle.nodejs_semver.{proofs.Common.{filter, take, ◌++◌, ◌≡◌, ◌≤◌}, specs.Internal.Questions.is_used}
use Rattle.nodejs_semver.proofs.range.RangeOf.simplify.Given as goal

abbrev pub invariant-loop-interval : goal.invariant-loop-interval
invariant-loop-interval g l =
    (1 ≤ l.used.capacity)
    × (l.used.items
    ≡ l.initial.used.items
    ++ filter (is_used g.V.Versioned.value g.W.Versioned.value l.versions) (take l.interval-index l.intervals))
