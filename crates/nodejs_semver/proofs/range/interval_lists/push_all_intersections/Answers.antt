use Rattle.nodejs_semver.proofs.Common.{ap, append-nil, arith, flat_behind, flat_some, length, none_of, on_err, part_some}
use Rattle.nodejs_semver.proofs.Common.{refl, subst, sym, take_all, ◌++◌, ◌<◌, ◌∙◌}
use Rattle.nodejs_semver.proofs.Algebra.Near.{flat_near}
use Rattle.nodejs_semver.proofs.range.interval_lists.push_all_intersections.Goals as goal

pub loop-another-preserved : goal.loop-another-preserved
loop-another-preserved g c = flat_behind _ c.near-near.result.now _ c.another-item.result c.loop-interval.found.items c.loop-another.found.items c.if-meets.found.items _
    c.loop-another-test.true c.another-item.is refl c.loop-another.invariant (grind (arith, none_of, append-nil))

pub loop-interval-preserved : goal.loop-interval-preserved
loop-interval-preserved g c = flat_behind _ c.args.these.now _ c.interval-item.result c.args.found.now.items _ _ _ c.loop-interval-test.true
    c.interval-item.is refl c.loop-interval.invariant (rw (take_all _ c.near-near.result.now c.loop-another-test.false) at c.loop-another.invariant
    ∙ ap (λ l. c.loop-interval.found.items ++ l) (sym (flat_near g.V.Ord.cmp c.interval-item.result c.args.others.now c.near-near.result.now c.near-near.ensures)))

pub returns-in_err-push_common-clause-memory : goal.returns-in_err-push_common-clause-memory
returns-in_err-push_common-clause-memory g c =
    on_err c.from_residual.result (flat_some _ c.args.these.now _ c.interval-item.result c.loop-interval-test.true
    c.interval-item.is (subst (λ l. 0 < length l) (sym (flat_near g.V.Ord.cmp c.interval-item.result c.args.others.now c.near-near.result.now c.near-near.ensures))
    (flat_some _ c.near-near.result.now _ c.another-item.result c.loop-another-test.true c.another-item.is (part_some _ _ refl c.in_err-push_common.ensures.memory))))

pub returns-clause-items : goal.returns-clause-items
returns-clause-items g c = rw (take_all _ c.args.these.now c.loop-interval-test.false) at c.loop-interval.invariant
