use Rattle.std.proofs.Common.{◌≡◌, Some, ap, arith, inl, inr, length, refl, subst}
use Rattle.std.proofs.lemmas.Option.{slice_get_read, slice_get_within}
use Rattle.std.specs.Prelude.{slice_get}
use Rattle.lock_check.specs.Internal.Overriding.{IsAboutIf}
use Rattle.lock_check.proofs.Laying.{misses-more}
use Rattle.lock_check.proofs.overrides.Overrides.first_in.Goals.{else-is-via-then-is+in_ok-is_about+else-branch, else-is-via-else-is}
use Rattle.lock_check.proofs.overrides.Overrides.first_in.Goals as goal

pub loop-number-preserved : goal.loop-number-preserved
loop-number-preserved c =
    let rules = c.args.self.now.rules.items in
    let d = c.args.dependency in
    let n = c.loop-number.number in
    let own = c.rule-item.result in
    let at = subst (λ xs. slice_get xs n ≡ Some own) c.deref-rule-items.ensures.value
    (slice_get_read c.deref-rule-items.result.now _ n own refl c.loop-number-test.true c.rule-item.is) in
    misses-more rules c.args.scope d n own at (elim c.else-is.branch [
      | else-is-via-then-is+in_ok-is_about+else-branch w ↦
          inr (subst (IsAboutIf d own) w.if-branch.false w.in_ok-is_about.ensures)
      | else-is-via-else-is w ↦ inl (λ same. let on = c.is.ensures.1 same in let off = w.if-is.false in absurd (cc))
    ]) c.loop-number.invariant

pub returns : goal.returns
returns c = λ i r is. c.loop-number.invariant i r
    (let within = slice_get_within c.args.self.now.rules.items i r is in omega (arith, ap length c.deref-rule-items.ensures.value)) is
