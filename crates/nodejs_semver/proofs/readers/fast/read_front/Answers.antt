use Rattle.nodejs_semver.proofs.Common.{refl, rules, sym, ap, ◌∙◌, inr, MAX_SAFE_INTEGER, rest_view, on_err}
use Rattle.nodejs_semver.proofs.Everyday.Parts.{loop-bars, loop-ends, loop-goes, loop-no_part, loop-shorter, loop-starts}
use Rattle.nodejs_semver.proofs.readers.fast.read_front.Goals as goal

pub parts-init : goal.parts-init
parts-init g c = (loop-starts MAX_SAFE_INTEGER c.args.text.now c.args.text.now (g.S.Found.items c.args.found.now) refl c.requires.empty, c.requires.room)

pub returns-in_default-clause-none : goal.returns-in_default-clause-none
returns-in_default-clause-none g c =
    loop-no_part _ _ _ _ _ (rw c.in_default.is at c.in_ok-behind.ensures.added) c.parts.invariant.0

pub returns-in_default-after_bars-clause-some : goal.returns-in_default-after_bars-clause-some
returns-in_default-after_bars-clause-some g c =
    loop-ends _ _ _ _ _ _ (rw c.in-Some.is at c.in_ok-behind.ensures.added)
    (sym c.after_bars.ensures ∙ ap rest_view c.in_default-after_bars.is) c.parts.invariant.0

pub parts-smaller : goal.parts-smaller
parts-smaller g c =
    loop-shorter MAX_SAFE_INTEGER _ _ _ _ _ (rw c.in-Some.is at c.in_ok-behind.ensures.added)
    (sym c.after_bars.ensures ∙ ap rest_view c.in-Some-after_bars.is)

pub parts-preserved : goal.parts-preserved
parts-preserved g c = (
  rw c.reserve_for.ensures.same
      (loop-goes _ _ _ _ _ _ _ (rw c.in-Some.is at c.in_ok-behind.ensures.added)
      (sym c.after_bars.ensures ∙ ap rest_view c.in-Some-after_bars.is) c.parts.invariant.0),
  search rules,
)

pub returns-in_err-reserve_for-clause-memory : goal.returns-in_err-reserve_for-clause-memory
returns-in_err-reserve_for-clause-memory g c = on_err c.from_residual-in_err-reserve_for.result
    (inr (loop-bars _ _ _ _ _ _ _ (rw c.in-Some.is at c.in_ok-behind.ensures.added)
    (sym c.after_bars.ensures ∙ ap rest_view c.in-Some-after_bars.is) c.parts.invariant.0))
