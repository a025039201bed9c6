use Rattle.nodejs_semver.proofs.Common.{IfSome, filter, not, spans_of, take, ◌++◌, ◌≡◌, ◌≤◌}
use Rattle.nodejs_semver.specs.Internal.{Index.IsIndexOf, Questions.is_said}
use Rattle.nodejs_semver.proofs.range.RangeOf.union.Given as goal

abbrev pub invariant-loop-interval : goal.invariant-loop-interval
invariant-loop-interval g l =
    (1 ≤ l.intervals.capacity)
    × IfSome l.index (IsIndexOf (spans_of g.V.Versioned.value l.these))
    × (l.intervals.items
    ≡ l.initial.intervals.items
    ++ filter (λ t. not (is_said g.V.Versioned.value l.these t)) (take l.interval-index l.others))
