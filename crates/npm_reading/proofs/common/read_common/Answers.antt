use Rattle.{nodejs_semver.proofs.Common.{ap, arith, on_err, rest_view, sym, ◌∙◌}, npm_reading.proofs.Grammar.CommonReads.{loop-ends, loop-goes}}
use Rattle.npm_reading.proofs.common.read_common.Goals as goal

pub returns-then-is_empty-clause-read : goal.returns-then-is_empty-clause-read
returns-then-is_empty-clause-read c = λ _.
    loop-ends _ _ _ _ _ _ c.parts.invariant (rw (ap rest_view c.in-Some.is) at c.in_ok-behind.ensures.added) (grind arith)

pub parts-smaller : goal.parts-smaller
parts-smaller c =
    (loop-goes _ _ _ _ _ _ _ c.parts.invariant (rw (ap rest_view c.in-Some.is) at c.in_ok-behind.ensures.added)
    (sym c.after_bars.ensures ∙ ap rest_view c.in-Some-after_bars.is)).2

pub parts-preserved : goal.parts-preserved
parts-preserved c = rw c.reserve_for.ensures.same
    (loop-goes _ _ _ _ _ _ _ c.parts.invariant (rw (ap rest_view c.in-Some.is) at c.in_ok-behind.ensures.added)
    (sym c.after_bars.ensures ∙ ap rest_view c.in-Some-after_bars.is)).0

pub returns-in_err-reserve_for-clause-memory : goal.returns-in_err-reserve_for-clause-memory
returns-in_err-reserve_for-clause-memory c = on_err c.from_residual-in_err-reserve_for.result
    (loop-goes _ _ _ _ _ _ _ c.parts.invariant (rw (ap rest_view c.in-Some.is) at c.in_ok-behind.ensures.added)
    (sym c.after_bars.ensures ∙ ap rest_view c.in-Some-after_bars.is)).1
