-- A total order as two tests.
use Rattle.std.proofs.Common.{◌≡◌, ◌&&◌, Bool, true, false, not, refl, ap, ◌∙◌, sym, true≢false}
use Rattle.std.proofs.lemmas.Bool.{not-false, not-true}
use Rattle.std.specs.Cmp.{IsTotalOrder, tied_itself, upto}
use Rattle.std.specs.Ordering.{is_gt, is_le, is_lt, ordering_reverse}
use Rattle.std.specs.declared.cmp.Ordering.{Ordering}
use Rattle.std.specs.declared.cmp.Ordering.TheVariants.{Less, Equal, Greater}

pub false_true : {C : Type 0} (b : Bool) → b ≡ false → b ≡ true → C
false_true b e h = absurd (true≢false (sym h ∙ e))

pub by_bool : {C : Type 0} (b : Bool) → (b ≡ true → C) → (b ≡ false → C) → C
by_bool true f g = f refl
by_bool false f g = g refl

pub and_first : (x y : Bool) → (x && y) ≡ true → x ≡ true
and_first true y h = refl
and_first false y h = h

pub and_second : (x y : Bool) → (x && y) ≡ true → y ≡ true
and_second true y h = h
and_second false y h = absurd (true≢false (sym h))

pub gt_le : (o : Ordering) → is_gt o ≡ not (is_le o)
gt_le Less = refl
gt_le Equal = refl
gt_le Greater = refl

pub turned_lt : (o p : Ordering) → o ≡ ordering_reverse p → is_lt o ≡ not (is_le p)
turned_lt o Less e = ap is_lt e
turned_lt o Equal e = ap is_lt e
turned_lt o Greater e = ap is_lt e

lt_is_le : (o : Ordering) → is_lt o ≡ true → is_le o ≡ true
lt_is_le Less h = refl
lt_is_le Equal h = refl
lt_is_le Greater h = h

both_le : (o p : Ordering) → o ≡ ordering_reverse p → is_le o ≡ true → is_le p ≡ true → o ≡ Equal
both_le o Less e h k = false_true (is_le o) (ap is_le e) h
both_le o Equal e h k = e
both_le o Greater e h k = absurd (true≢false (sym k))

module _ {A : Type 0} {R : A → A → Ordering} (o : IsTotalOrder R) where
  abbrev pub le : A → A → Bool
  le a b = is_le (R a b)

  abbrev pub lt : A → A → Bool
  lt a b = is_lt (R a b)

  pub le_itself : (a : A) → is_le (R a a) ≡ true
  le_itself a = ap is_le (tied_itself o a)

  pub lt_le : (a b : A) → is_lt (R a b) ≡ not (is_le (R b a))
  lt_le a b = turned_lt _ _ (o.antisymm a b)

  pub le_le : (a b c : A) → is_le (R a b) ≡ true → is_le (R b c) ≡ true → is_le (R a c) ≡ true
  le_le a b c h k = not-false _ (sym (gt_le _) ∙ upto o a b c (gt_le _ ∙ ap not h) (gt_le _ ∙ ap not k))

  pub le_from_lt : (a b : A) → is_lt (R a b) ≡ true → is_le (R a b) ≡ true
  le_from_lt a b = lt_is_le (R a b)

  -- a < b exactly if not b <= a
  pub not_back : (a b : A) → is_lt (R a b) ≡ true → is_le (R b a) ≡ false
  not_back a b h = not-true _ (sym (lt_le a b) ∙ h)

  pub lt_from_not : (a b : A) → is_le (R b a) ≡ false → is_lt (R a b) ≡ true
  lt_from_not a b h = lt_le a b ∙ ap not h

  pub not_lt : (a b : A) → is_le (R b a) ≡ true → is_lt (R a b) ≡ false
  not_lt a b h = lt_le a b ∙ ap not h

  pub le_from_not : (a b : A) → is_lt (R a b) ≡ false → is_le (R b a) ≡ true
  le_from_not a b h = not-false _ (sym (lt_le a b) ∙ h)

  pub lt_after_le : (a b c : A) → is_le (R a b) ≡ true → is_lt (R b c) ≡ true → is_lt (R a c) ≡ true
  lt_after_le a b c h k = by_bool (is_le (R c a))
      (λ e. false_true (is_le (R c b)) (not_back b c k) (le_le c a b e h)) (lt_from_not a c)

  pub lt_before_le : (a b c : A) → is_lt (R a b) ≡ true → is_le (R b c) ≡ true → is_lt (R a c) ≡ true
  lt_before_le a b c h k = by_bool (is_le (R c a))
      (λ e. false_true (is_le (R b a)) (not_back a b h) (le_le b c a k e)) (lt_from_not a c)

  pub tied : (a b : A) → is_le (R a b) ≡ true → is_le (R b a) ≡ true → R a b ≡ Equal
  tied a b = both_le (R a b) (R b a) (o.antisymm a b)
