use Rattle.nodejs_semver.proofs.Common.{IfOk-weaker, arith, fold_more, sym, take-append-drop, take_all}
use Rattle.nodejs_semver.proofs.Algebra.Differences.{along-gaps, gaps-joined}
use Rattle.nodejs_semver.proofs.range.interval_lists.+complement.Goals as goal

pub loop-interval-preserved : goal.loop-interval-preserved
loop-interval-preserved g t c = rw (fold_more _ _ c.args.intervals.now _ c.interval-item.result c.loop-interval-test.true, sym c.interval-item.is)
    (rw (sym c.loop-interval.invariant, sym c.deref.ensures) c.in_ok-left.ensures.items)

pub returns-then-intervals-lt4 : goal.returns-then-intervals-lt4
returns-then-intervals-lt4 g t c =
    rw (take_all _ c.args.intervals.now c.loop-interval-test.false, c.from_buf-left.ensures.items, c.default.ensures) at c.loop-interval.invariant

pub clipped-requires : goal.clipped-requires
clipped-requires g t c = (
  omega arith,
  rw c.deref-3.ensures (along-gaps g.met.V.Ord.total c.split_at.result.1.now c.in_ok-after.after.items c.in_ok-after.ensures),
)

pub returns : goal.returns
returns g t c = IfOk-weaker c.clipped.result _ _ (λ r e.
    gaps-joined g.met.V.Ord.total c.split_at.result.0.now c.split_at.result.1.now c.in_ok-before.before.items
    c.in_ok-after.after.items c.args.intervals.now _ c.in_ok-before.ensures c.in_ok-after.ensures (rw (c.deref-2.ensures, c.deref-3.ensures) at e)
    (rw (c.split_at.ensures.front, c.split_at.ensures.back) (sym (take-append-drop _ _)))) c.clipped.ensures
