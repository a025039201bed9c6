use Rattle.nodejs_semver.proofs.Common.{flat_map, meet, meets_of, option_to_list, take, ◌++◌, ◌≡◌}
use Rattle.nodejs_semver.proofs.range.interval_lists.push_all_intersections.Given as goal

abbrev pub invariant-loop-interval : goal.invariant-loop-interval
invariant-loop-interval g l = l.found.items ≡ l.initial.found.items ++ meets_of g.V.Ord.cmp (take l.interval-index l.these) l.others

abbrev pub invariant-loop-another : goal.invariant-loop-another
invariant-loop-another g l = l.found.items
    ≡ l.initial.found.items ++ flat_map (λ t. option_to_list (meet g.V.Ord.cmp l.interval t)) (take l.another-index l.near)
