-- Of spans that stand along the line, those that meet another one stand together.
use Rattle.nodejs_semver.proofs.{Algebra.Differences.{all_rise, falls_short}, Common.{AllWithin, Bool, Cut, IsTotalOrder, List, Ordering, Span}}
use Rattle.nodejs_semver.proofs.Common.{Start, [], all_weaker, and-false, and_parts, any_under, ap, append-nil, ap₂, arith, below_upto, between}
use Rattle.nodejs_semver.proofs.Common.{between_from, cut_cmp, drop, false, flat_map, flat_map-append, get_or, get_or-drop, gt_lt, is_interval, is_le}
use Rattle.nodejs_semver.proofs.Common.{is_lt, is_some, is_some-interval, length, length-drop, list_all, list_all-append, list_any, list_any-append}
use Rattle.nodejs_semver.proofs.Common.{lower_cut, lt, meet, none_of, not, not-true, not_if, option_to_list, or_parts, refl, subst, suc, sym, take}
use Rattle.nodejs_semver.proofs.Common.{take-append-drop, tells, true, upper_cut, upto_below, ℕ, ◌&&◌, ◌++◌, ◌+◌, ◌<◌, ◌||◌, ◌∙◌, ◌∷◌, ◌≡◌}
use Rattle.{nodejs_semver.specs.{Internal.Along.{IsAlong, IsNear}, Words.covers}, std.proofs.lemmas.List.{Folds.list_any_none, get_or-take}}
use Rattle.std.{proofs.lemmas.List.length-take, specs.List.Sorted.{IsPartitionPoint, IsPartitionedBy}}

-- a test that fails from a place on, or up to it
none_from : {A : Type 0} (p : A → Bool) (xs : List A) (m : ℕ) → AllWithin (λ x. p x ≡ false) xs m (length xs) → list_any p (drop m xs) ≡ false
none_from p xs m h = list_any_none p (drop m xs) (λ i d l. grind (arith, get_or-drop m xs i d, length-drop, h (m + i) d))

none_upto : {A : Type 0} (p : A → Bool) (xs : List A) (m : ℕ) → AllWithin (λ x. p x ≡ false) xs 0 m → list_any p (take m xs) ≡ false
none_upto p xs m h = list_any_none p (take m xs) (λ i d l. grind (arith, get_or-take m xs i d, length-take m xs, h i d))

module _ {V : Type 0} {R : V → V → Ordering} (o : IsTotalOrder R) where
  abbrev meets : Span V → Span V → Bool
  meets s t = is_some (meet R s t)

  -- what ends not above where s begins does not meet it, nor what begins not below where it ends
  apart : (s t : Span V) → (lt o (lower_cut s.lower) (upper_cut t.upper) && lt o (lower_cut t.lower) (upper_cut s.upper)) ≡ false → meets s t ≡ false
  apart s t h = grind (arith, is_some-interval, between)

  pub begins_parted : (s : Span V) (a : Cut V) (cs : List (Span V)) → IsAlong R a cs
      → IsPartitionedBy (λ c. is_lt (cut_cmp R (lower_cut c.lower) (upper_cut s.upper))) cs
  begins_parted s a cs h i j d l k e =
      upto_below o (lower_cut (get_or cs i d).lower) (lower_cut (get_or cs j d).lower) (upper_cut s.upper) (all_rise o a cs i j d h l k).0 e

  along_at : (a : Cut V) (cs : List (Span V)) → list_all (is_interval R) cs ≡ true
      → ((d : Span V) → 0 < length cs → lt o (lower_cut (get_or cs 0 d).lower) a ≡ false)
      → ((k : ℕ) (d : Span V) → suc k < length cs → lt o (lower_cut (get_or cs (suc k) d).lower) (upper_cut (get_or cs k d).upper) ≡ false)
      → IsAlong R a cs
  along_at a [] h f k = tt
  along_at a (c ∷ cs) h f k =
      let (one, others) = and_parts (is_interval R c) (list_all (is_interval R) cs) h in
      (f c (omega arith), (one, along_at (upper_cut c.upper) cs others (λ d l. k 0 d (omega arith)) (λ i d l. k (suc i) d (omega arith))))

  -- neighbours of which none reaches the next stand along the line
  pub along_from : (cs : List (Span V)) → list_all (is_interval R) cs ≡ true
      → ((k : ℕ) (d : Span V) → k + 1 < length cs → not (lt o (lower_cut (get_or cs (k + 1) d).lower) (upper_cut (get_or cs k d).upper)) ≡ true)
      → IsAlong R Start cs
  along_from cs h k = along_at Start cs h (λ d l. grind arith)
      (λ i d l. subst (λ n. lt o (lower_cut (get_or cs n d).lower) (upper_cut (get_or cs i d).upper) ≡ false) (omega arith)
      (not-true _ (k i d (omega arith))))

  pub all_near : (s : Span V) (cs : List (Span V)) → IsNear R s cs cs
  all_near s cs = record { front = []; back = []; is = sym (append-nil cs); before = refl; behind = refl }

  pub nearest : (s : Span V) (cs behind near : List (Span V)) (p q : ℕ)
      → IsPartitionPoint (λ c. falls_short o s c ≡ true) (λ c. falls_short o s c ≡ false) cs p → behind ≡ drop p cs
      → IsPartitionPoint (λ c. is_lt (cut_cmp R (lower_cut c.lower) (upper_cut s.upper)) ≡ true)
      (λ c. is_lt (cut_cmp R (lower_cut c.lower) (upper_cut s.upper)) ≡ false) behind q → near ≡ take q behind → IsNear R s cs near
  nearest s cs behind near p q h e k f = record {
    front = take p cs;
    back = drop q behind;
    is = sym (ap₂ (λ x y. take p cs ++ (x ++ y)) f refl ∙ ap (λ l. take p cs ++ l) (take-append-drop _ _ ∙ e) ∙ take-append-drop _ _);
    before = none_upto (meets s) cs p (λ i d a b. apart s (get_or cs i d) (grind (arith, h.0 i d a b)));
    behind = none_from (meets s) behind q (λ i d a b. apart s (get_or behind i d) (rw (k.1 i d a b) (and-false _)));
  }

upto_not : {V : Type 0} {R : V → V → Ordering} (o : IsTotalOrder R) (a b : Cut V) → is_le (cut_cmp R a b) ≡ true → lt o b a ≡ false
upto_not o a b h = grind (arith, gt_lt, tells)

-- what one interval covers it meets
pub covered_meets : {V : Type 0} {R : V → V → Ordering} (o : IsTotalOrder R) (s t : Span V) → is_interval R t ≡ true → covers R s t ≡ true
    → is_some (meet R s t) ≡ true
covered_meets o s t i c =
    grind (arith, upto_not, upto_below, below_upto, is_some-interval, between_from)

-- what is asked of each of the spans that meet s, or made of them, is so of the near ones alone
module _ {V : Type 0} (R : V → V → Ordering) (s : Span V) where
  none_flat : (xs : List (Span V)) → list_any (λ t. is_some (meet R s t)) xs ≡ false → flat_map (λ t. option_to_list (meet R s t)) xs ≡ []
  none_flat [] h = refl
  none_flat (x ∷ xs) h =
      let (one, others) = or_parts (is_some (meet R s x)) (list_any (λ t. is_some (meet R s t)) xs) h in
      ap₂ (λ a b. option_to_list a ++ b) (none_of (meet R s x) one) (none_flat xs others)

  -- of intervals of which none meets s, none passes a test that is passed by such as meet it
  none_any : (p : Span V → Bool) → ((t : Span V) → is_interval R t ≡ true → p t ≡ true → is_some (meet R s t) ≡ true) → (xs : List (Span V))
      → list_all (is_interval R) xs ≡ true → list_any (λ t. is_some (meet R s t)) xs ≡ false → list_any p xs ≡ false
  none_any p h xs k e = not_if _ _ (λ m. any_under p (λ t. is_some (meet R s t)) xs m
      (all_weaker (is_interval R) (λ t. not (p t) || is_some (meet R s t)) (λ t i. grind (arith, h t i)) xs k)) e

  pub any_near : (ts near : List (Span V)) (p : Span V → Bool) → ((t : Span V) → is_interval R t ≡ true → p t ≡ true → is_some (meet R s t) ≡ true)
      → list_all (is_interval R) ts ≡ true → IsNear R s ts near → list_any p ts ≡ list_any p near
  any_near ts near p h k n =
      grind (arith, n.is, list_any-append, list_all-append, none_any, n.before, n.behind)

  pub flat_near : (ts near : List (Span V)) → IsNear R s ts near
      → flat_map (λ t. option_to_list (meet R s t)) ts ≡ flat_map (λ t. option_to_list (meet R s t)) near
  flat_near ts near n =
      grind (arith, flat_map-append, none_flat, n.is, n.before, n.behind, append-nil)
