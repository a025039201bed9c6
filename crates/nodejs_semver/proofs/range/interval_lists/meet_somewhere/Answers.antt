use Rattle.nodejs_semver.proofs.Algebra.Near.{any_near}
use Rattle.nodejs_semver.proofs.{Algebra.Accepting.{meets_one_some, none_further, one_passes}, Common.{is_some, list_any, meet, sym, take_all, ◌∙◌}}
use Rattle.nodejs_semver.proofs.range.interval_lists.meet_somewhere.Goals as goal

pub loop-interval-preserved : goal.loop-interval-preserved
loop-interval-preserved g c = none_further (λ s. list_any (λ t. is_some (meet g.V.Ord.cmp s t)) c.args.others.now) c.args.these.now _ c.interval-item.result
    c.loop-interval-test.true c.interval-item.is c.loop-interval.invariant ((any_near g.V.Ord.cmp c.interval-item.result c.args.others.now c.near-other-items.result.now (λ t. is_some (meet g.V.Ord.cmp c.interval-item.result t)) (λ t i e. e) c.requires c.near-other-items.ensures) ∙ rw (take_all _ c.near-other-items.result.now c.loop-other-test.false) at c.loop-other.invariant)

pub returns-then-meets : goal.returns-then-meets
returns-then-meets g c = sym (one_passes (λ s. list_any (λ t. is_some (meet g.V.Ord.cmp s t)) c.args.others.now) c.args.these.now _ c.interval-item.result c.loop-interval-test.true
    c.interval-item.is ((any_near g.V.Ord.cmp c.interval-item.result c.args.others.now c.near-other-items.result.now (λ t. is_some (meet g.V.Ord.cmp c.interval-item.result t)) (λ t i e. e) c.requires c.near-other-items.ensures) ∙ one_passes _ c.near-other-items.result.now _ c.other-item.result c.loop-other-test.true c.other-item.is (sym c.meets.ensures ∙ c.if-meets.true))) ∙ meets_one_some g.V.Ord.cmp c.args.these.now c.args.others.now

pub returns : goal.returns
returns g c = sym (rw (take_all _ c.args.these.now c.loop-interval-test.false) at c.loop-interval.invariant) ∙ meets_one_some g.V.Ord.cmp c.args.these.now c.args.others.now
