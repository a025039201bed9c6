use Rattle.nodejs_semver.proofs.Common.{length, max, take, ◌≡◌}
use Rattle.nodejs_semver.proofs.range.copy_intervals.Given as goal

abbrev pub invariant-loop-interval : goal.invariant-loop-interval
invariant-loop-interval g l = (l.copies.items ≡ take l.interval-index l.intervals) × (l.copies.capacity ≡ max 1 (length l.intervals))
