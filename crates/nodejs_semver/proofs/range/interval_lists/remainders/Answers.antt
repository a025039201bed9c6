use Rattle.nodejs_semver.proofs.Common.{List, Option, [], ap, append_assoc, arith, flat_behind, flat_some, inl, inr, is_some, length, length-append}
use Rattle.nodejs_semver.proofs.Common.{on_err, option_to_list, refl, sym, take_all, true, ◌++◌, ◌<◌, ◌∙◌, ◌≡◌, ◌⊎◌}
use Rattle.nodejs_semver.proofs.Algebra.Differences.{pushed, some-map, unpushed}
use Rattle.nodejs_semver.proofs.range.interval_lists.remainders.Goals.{then-meets+in_ok-push+in_ok-push-2, else-meets+in_ok-push-3}
use Rattle.nodejs_semver.proofs.range.interval_lists.remainders.Goals as goal

some_left : {A : Type 0} (m n : Option A) → (is_some m ≡ true) ⊎ (is_some n ≡ true) → 0 < length (option_to_list m ++ option_to_list n)
some_left m n h = grind (arith, length-append)

both : {A : Type 0} (old mid new m n : List A) → mid ≡ old ++ m → new ≡ mid ++ n → new ≡ old ++ (m ++ n)
both old mid new m n e f = f ∙ ap (λ l. l ++ n) e ∙ append_assoc old m n

pub loop-interval-preserved : goal.loop-interval-preserved
loop-interval-preserved g c = flat_behind _ c.args.these.now _ c.interval-item.result [] c.loop-interval.left.items c.if-meets.left.items _
    c.loop-interval-test.true c.interval-item.is refl c.loop-interval.invariant (elim c.if-meets.branch [
      | then-meets+in_ok-push+in_ok-push-2 w ↦ rw (w.left-is, sym c.meets.ensures ∙ w.if-meets.true) (both _ _ _ _ _
          (pushed _ _ _ _ w.left_below.ensures.bounds w.in_ok-push.ensures.items) (pushed _ _ _ _ w.left_above.ensures.bounds w.in_ok-push-2.ensures.items))
      | else-meets+in_ok-push-3 w ↦ rw (w.left-is, sym c.meets.ensures ∙ w.if-meets.false)
          (pushed _ _ _ _ (some-map _ _ _ w.copy.ensures.whole w.map.ensures.cases) w.in_ok-push-3.ensures.items)
    ])

pub returns-in_err-push-clause-memory : goal.returns-in_err-push-clause-memory
returns-in_err-push-clause-memory g c = on_err _ (flat_some _ c.args.these.now _ c.interval-item.result c.loop-interval-test.true c.interval-item.is
    (rw (sym c.meets.ensures ∙ c.if-meets.true)
    (some_left _ _ (inl (unpushed _ _ c.left_below.ensures.bounds c.left_below.ensures.memory c.in_err-push.ensures.memory)))))

pub returns-in_err-push-2-clause-memory : goal.returns-in_err-push-2-clause-memory
returns-in_err-push-2-clause-memory g c = on_err _ (flat_some _ c.args.these.now _ c.interval-item.result c.loop-interval-test.true c.interval-item.is
    (rw (sym c.meets.ensures ∙ c.if-meets.true)
    (some_left _ _ (inr (unpushed _ _ c.left_above.ensures.bounds c.left_above.ensures.memory c.in_err-push-2.ensures.memory)))))

pub returns-in_err-push-3-clause-memory : goal.returns-in_err-push-3-clause-memory
returns-in_err-push-3-clause-memory g c = on_err _ (flat_some _ c.args.these.now _ c.interval-item.result c.loop-interval-test.true c.interval-item.is
    (rw (sym c.meets.ensures ∙ c.if-meets.false) (omega arith)))

pub returns-clause-items : goal.returns-clause-items
returns-clause-items g c = rw (take_all _ c.args.these.now c.loop-interval-test.false) at c.loop-interval.invariant
