-- A total order, by what `is_le` answers.
use Rattle.semver_core.proofs.Common.{Equal, Ordering, ap, arith, is_le, not, not-true, sym}
use Rattle.semver_core.proofs.{Common.{true, upto, ◌||◌, ◌∙◌, ◌≡◌}, CutLaws.{lt_not_gt, tells}}
use Rattle.std.specs.Cmp.{IsTotalOrder}

module _ {V : Type 0} {R : V → V → Ordering} (o : IsTotalOrder R) where
  pub antisymmetric : (v w : V) → is_le (R v w) ≡ true → is_le (R w v) ≡ true → R v w ≡ Equal
  antisymmetric v w h k = grind (arith, o.antisymm v w)

  pub transitive : (u v w : V) → is_le (R u v) ≡ true → is_le (R v w) ≡ true → is_le (R u w) ≡ true
  transitive u v w h k = (tells _).0 ∙ ap not (upto o u v w (not-true _ (sym (tells _).0 ∙ h)) (not-true _ (sym (tells _).0 ∙ k)))

  pub total : (v w : V) → (is_le (R v w) || is_le (R w v)) ≡ true
  total v w = grind (arith, tells, lt_not_gt, o.antisymm v w)
