use Rattle.nodejs_semver.proofs.Common.{clip, flat_map, option_to_list, take, ◌≡◌}
use Rattle.nodejs_semver.proofs.range.interval_lists.clipped.Given as goal

abbrev pub invariant-loop-interval : goal.invariant-loop-interval
invariant-loop-interval g l = l.found.items
    ≡ flat_map (λ s. flat_map (λ t. option_to_list (clip g.V.Ord.cmp s t)) l.pieces) (take l.interval-index l.these)
