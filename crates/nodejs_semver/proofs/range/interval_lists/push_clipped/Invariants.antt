use Rattle.nodejs_semver.proofs.Common.{clip, flat_map, option_to_list, take, ◌++◌, ◌≡◌}
use Rattle.nodejs_semver.proofs.range.interval_lists.push_clipped.Given as goal

abbrev pub invariant-loop-piece : goal.invariant-loop-piece
invariant-loop-piece g l = l.found.items
    ≡ l.initial.found.items ++ flat_map (λ t. option_to_list (clip g.V.Ord.cmp l.interval t)) (take l.piece-index l.near)
