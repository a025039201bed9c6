use Rattle.nodejs_semver.proofs.Common.{flat_map, remainder, take, ◌≡◌}
use Rattle.nodejs_semver.proofs.range.interval_lists.remainders.Given as goal

abbrev pub invariant-loop-interval : goal.invariant-loop-interval
invariant-loop-interval g l = l.left.items ≡ flat_map (λ s. remainder g.V.Ord.cmp s l.other) (take l.interval-index l.these)
