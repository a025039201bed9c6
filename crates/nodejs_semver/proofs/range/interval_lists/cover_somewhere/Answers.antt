use Rattle.nodejs_semver.proofs.Algebra.Near.{any_near, covered_meets}
use Rattle.nodejs_semver.{proofs.Algebra.Accepting.{none_further, one_passes}, proofs.Common.{list_any, sym, take_all, ◌∙◌}, specs.Words.{covers}}
use Rattle.nodejs_semver.proofs.range.interval_lists.cover_somewhere.Goals as goal

pub loop-interval-preserved : goal.loop-interval-preserved
loop-interval-preserved g c = none_further (λ s. list_any (λ t. covers g.V.Ord.cmp s t) c.args.others.now) c.args.these.now _ c.interval-item.result
    c.loop-interval-test.true c.interval-item.is c.loop-interval.invariant ((any_near g.V.Ord.cmp c.interval-item.result c.args.others.now c.near-other-items.result.now (λ t. covers g.V.Ord.cmp c.interval-item.result t) (covered_meets g.met.V.Ord.total c.interval-item.result) c.requires c.near-other-items.ensures) ∙ rw (take_all _ c.near-other-items.result.now c.loop-other-test.false) at c.loop-other.invariant)

pub returns-then-covers : goal.returns-then-covers
returns-then-covers g c = sym (one_passes (λ s. list_any (λ t. covers g.V.Ord.cmp s t) c.args.others.now) c.args.these.now _ c.interval-item.result c.loop-interval-test.true
    c.interval-item.is ((any_near g.V.Ord.cmp c.interval-item.result c.args.others.now c.near-other-items.result.now (λ t. covers g.V.Ord.cmp c.interval-item.result t) (covered_meets g.met.V.Ord.total c.interval-item.result) c.requires c.near-other-items.ensures) ∙ one_passes _ c.near-other-items.result.now _ c.other-item.result c.loop-other-test.true c.other-item.is (sym c.covers.ensures ∙ c.if-covers.true)))

pub returns : goal.returns
returns g c = sym (rw (take_all _ c.args.these.now c.loop-interval-test.false) at c.loop-interval.invariant)
