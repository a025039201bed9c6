use Rattle.nodejs_semver.proofs.Common.{BeginsAfterPre, IsAfterPre, Raisable, better_kept, bound_of, inl, inr, on_err, spans_of, subst}
use Rattle.nodejs_semver.proofs.Common.{sym, take_all}
use Rattle.nodejs_semver.proofs.Questions.Spans.{all_marks, any_at, any_here, begins_after, kept_further, lower_raisable, raisable_at, range_further, removed_further}
use Rattle.nodejs_semver.proofs.range.least.consider_all.Goals as goal

pub loop-range-preserved : goal.loop-range-preserved
loop-range-preserved g c = range_further _ c.args.kept.now _ c.range-item.result c.loop-range-test.true c.range-item.is _ _ _ c.loop-range.invariant
    (rw (take_all _ c.items-intervals.result.now c.loop-interval-test.false, c.items-intervals.ensures.value) at c.loop-interval.invariant)

pub returns-in_err-consider-clause-memory : goal.returns-in_err-consider-clause-memory
returns-in_err-consider-clause-memory g c = on_err _ (inl c.in_err-consider.ensures.memory)

pub returns-in_err-consider_past-clause-memory : goal.returns-in_err-consider_past-clause-memory
returns-in_err-consider_past-clause-memory g c =
    on_err _ (elim (begins_after g.V.Versioned.value c.items-intervals.result.now _ c.interval-item.result c.loop-interval-test.true
    c.interval-item.is _ c.items-intervals.ensures.value _ c.lower.ensures.value c.in_err-consider_past.ensures.memory) [
      | inl found ↦ inl found
      | inr begins ↦
          inr (inl (any_here BeginsAfterPre c.args.kept.now _ _ c.loop-range-test.true c.range-item.is begins))
    ])

pub returns-in_err-consider_named-clause-memory : goal.returns-in_err-consider_named-clause-memory
returns-in_err-consider_named-clause-memory g c = on_err _ (inl c.in_err-consider_named.ensures.memory)

pub consider_past-requires : goal.consider_past-requires
consider_past-requires g c = record {
  fits = c.requires.fits;
  raisable = lower_raisable g.V.Versioned.value c.items-intervals.result.now _ c.interval-item.result c.loop-interval-test.true
      c.interval-item.is _ c.items-intervals.ensures.valid c.items-intervals.ensures.value _ c.lower.ensures.value;
}

pub loop-interval-preserved : goal.loop-interval-preserved
loop-interval-preserved g c = kept_further g.V.Versioned.value (better_kept (g.S.Search.copies c.args.search.now) (g.S.Search.wanted c.args.search.now))
    c.items-intervals.result.now c.loop-interval.interval-index c.interval-item.result c.loop-interval-test.true c.interval-item.is
    _ _ _ _ c.loop-interval.invariant (rw c.lower.ensures.value at c.in_ok-consider_past.ensures.best)
    (rw c.upper.ensures at c.in_ok-consider_named.ensures.best)

pub consider-requires : goal.consider-requires
consider-requires g c = c.requires.fits

pub consider_past-requires-in-loop-interval-2 : goal.consider_past-requires-in-loop-interval-2
consider_past-requires-in-loop-interval-2 g c =
    let value = g.W.Versioned.value in
    let (lower, upper) = raisable_at value c.args.removed.now c.loop-interval-2.interval-index c.interval-item-in-loop-interval-2.result
    c.loop-interval-2-test.true c.interval-item-in-loop-interval-2.is c.requires.removed in
    record { fits = c.requires.fits; raisable = subst (λ b. Raisable (bound_of value b)) (sym c.upper-in-loop-interval-2.ensures) upper }

pub returns-in_err-consider_past-2-clause-memory : goal.returns-in_err-consider_past-2-clause-memory
returns-in_err-consider_past-2-clause-memory g c =
    let value = g.W.Versioned.value in
    on_err _ (elim c.in_err-consider_past-2.ensures.memory [
      | inl found ↦ inl found
      | inr after ↦ inr (inr (any_at value c.args.removed.now
          c.loop-interval-2.interval-index c.interval-item-in-loop-interval-2.result c.loop-interval-2-test.true c.interval-item-in-loop-interval-2.is
          (λ s. IsAfterPre s.upper) (subst (λ b. IsAfterPre (bound_of value b)) c.upper-in-loop-interval-2.ensures after)))
    ])

pub loop-interval-2-preserved : goal.loop-interval-2-preserved
loop-interval-2-preserved g c = removed_further g.W.Versioned.value (better_kept (g.S.Search.copies c.args.search.now) (g.S.Search.wanted c.args.search.now))
    c.args.removed.now c.loop-interval-2.interval-index c.interval-item-in-loop-interval-2.result c.loop-interval-2-test.true c.interval-item-in-loop-interval-2.is
    _ _ _ c.loop-interval-2.invariant (rw c.upper-in-loop-interval-2.ensures at c.in_ok-consider_past-2.ensures.best)

pub returns-clause-best : goal.returns-clause-best
returns-clause-best g c =
    let removed = spans_of g.W.Versioned.value c.args.removed.now in
    all_marks (better_kept (g.S.Search.copies c.args.search.now) (g.S.Search.wanted c.args.search.now)) c.args.kept.now removed c.args.best.now c.consider.new.best
    c.loop-range.best c.loop-interval-2.best (rw c.release.ensures at c.in_ok-consider.ensures.best)
    (rw (take_all _ c.args.kept.now c.loop-range-test.false) at c.loop-range.invariant)
    (rw (take_all _ c.args.removed.now c.loop-interval-2-test.false) at c.loop-interval-2.invariant)
