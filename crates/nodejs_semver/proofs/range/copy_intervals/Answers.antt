use Rattle.nodejs_semver.proofs.Common.{ap₂, arith, inr, on_err, sym, take_all, ◌++◌, ◌∙◌, ◌∷◌, []}
use Rattle.std.proofs.lemmas.{List.{length-take, take_more}, List.Folds.{list_any_at}}
use Rattle.nodejs_semver.proofs.range.copy_intervals.Goals as goal

pub loop-interval-preserved : goal.loop-interval-preserved
loop-interval-preserved g c = (
  c.push_reserved.ensures.items ∙ ap₂ (λ l x. l ++ x ∷ []) c.loop-interval.invariant.0 (c.in_ok-copy.ensures.whole ∙ c.interval-item.is)
      ∙ sym (take_more c.args.intervals.now c.loop-interval.interval-index c.interval-item.result c.loop-interval-test.true),
  c.push_reserved.ensures.capacity ∙ c.loop-interval.invariant.1,
)

pub push_reserved-requires : goal.push_reserved-requires
push_reserved-requires g c = (omega arith, rw (c.loop-interval.invariant.0, c.loop-interval.invariant.1) (omega (arith, length-take c.loop-interval.interval-index c.args.intervals.now)))

pub returns : goal.returns
returns g c =
    record { whole = rw (take_all _ c.args.intervals.now c.loop-interval-test.false) at c.loop-interval.invariant.0; room = omega arith; memory = tt }

pub returns-in_err-copy-clause-memory : goal.returns-in_err-copy-clause-memory
returns-in_err-copy-clause-memory g c = on_err _ (inr (list_any_at _ c.args.intervals.now _ c.interval-item.result c.loop-interval-test.true (rw (sym c.interval-item.is) c.in_err-copy.ensures.memory)))
