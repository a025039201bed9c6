use Rattle.nodejs_semver.proofs.Common.{is_some, list_any, meet, take, false, ◌≡◌}
use Rattle.nodejs_semver.proofs.range.interval_lists.meet_somewhere.Given as goal

abbrev pub invariant-loop-interval : goal.invariant-loop-interval
invariant-loop-interval g l = list_any (λ s. list_any (λ t. is_some (meet g.V.Ord.cmp s t)) l.others) (take l.interval-index l.these) ≡ false

abbrev pub invariant-loop-other : goal.invariant-loop-other
invariant-loop-other g l = list_any (λ t. is_some (meet g.V.Ord.cmp l.interval t)) (take l.other-index l.other-items) ≡ false
