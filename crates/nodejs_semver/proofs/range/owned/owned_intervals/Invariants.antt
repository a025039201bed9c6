use Rattle.nodejs_semver.proofs.Common.{length, take, ◌≡◌, ◌≤◌}
use Rattle.nodejs_semver.proofs.range.owned.owned_intervals.Given as goal

abbrev pub invariant-loop-interval : goal.invariant-loop-interval
invariant-loop-interval l = (l.owned.items ≡ take l.interval-index l.intervals) × (length l.intervals ≤ l.owned.capacity)
