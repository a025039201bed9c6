use Rattle.nodejs_semver.proofs.Common.{ap₂, not, take_all, ◌&&◌}
use Rattle.nodejs_semver.proofs.Questions.Index.{all_further, passes_all}
use Rattle.nodejs_semver.proofs.range.index.Indexes.of.Goals as goal

pub loop-range-preserved : goal.loop-range-preserved
loop-range-preserved g c = λ v. all_further c.loop-range.kept.items c.push.new.self.items c.args.ranges.now c.loop-range.range-index c.range-item.result
    _ v c.loop-range-test.true c.range-item.is c.in_ok-push.ensures.items (c.loop-range.invariant v) (rw c.items.ensures.value at (passes_all _ c.in_ok-of.field-0 c.in_ok-of.ensures v))

pub returns : goal.returns
returns g c = λ v. ap₂ (λ p q. p && not q) (rw (take_all _ c.args.ranges.now c.loop-range-test.false) at c.loop-range.invariant v) (passes_all _ c.in_ok-removed.removed c.in_ok-removed.ensures v)
