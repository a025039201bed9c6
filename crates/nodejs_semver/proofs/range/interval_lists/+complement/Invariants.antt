use Rattle.nodejs_semver.proofs.Common.{length, minus, take, ◌≡◌}
use Rattle.nodejs_semver.proofs.range.interval_lists.+complement.Given as goal

abbrev pub decreases-complement : goal.decreases-complement
decreases-complement g l = length l.intervals.now

abbrev pub invariant-loop-interval : goal.invariant-loop-interval
invariant-loop-interval g l = l.left.items ≡ minus g.V.Ord.cmp l.initial.left.items (take l.interval-index l.intervals)
