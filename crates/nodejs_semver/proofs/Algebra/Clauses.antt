-- That the intersection and the difference of two lists are intervals of a range, and what they hold and accept.
use Rattle.nodejs_semver.proofs.Algebra.Accepting.{accepts-held, accepts-release, list_holds-meets_of, list_holds-minus, option_list_holds-if_any}
use Rattle.nodejs_semver.proofs.Common.{Bool, Bound, IfOk, IfOk-weaker, IsRange, IsTotalOrder, IsTrue, List, MAX_SAFE_INTEGER, None, Option, Ordering}
use Rattle.nodejs_semver.proofs.Common.{Result, Some, Span, VersionValue, [], accepts, all_flat, all_weaker, and_from, and_parts, ap, append-nil, ap₂}
use Rattle.nodejs_semver.proofs.Common.{arith, cond_both, cut_cmp, difference, false, first_so, flat_map, get_or, inl, inr, intersection}
use Rattle.nodejs_semver.proofs.Common.{is_gt, is_interval, is_range_bound, is_range_span, is_release, is_some, left_above, left_below, length}
use Rattle.nodejs_semver.proofs.Common.{length-map, list_all, list_all-append, list_holds, lower_cut, meet, meets_of, minus, not, option_accepts}
use Rattle.nodejs_semver.proofs.Common.{option_list_holds, option_to_list, precedence, precedence_total, refl, remainder, remainders_by, span_of}
use Rattle.nodejs_semver.proofs.Common.{spans_of, subst, sym, true, turned_lower, turned_upper, upper_cut, ℕ, ◌&&◌, ◌++◌, ◌+◌, ◌<◌, ◌∙◌, ◌∷◌, ◌≡◌}
use Rattle.{nodejs_semver.proofs.{Common.{◌≢◌, ◌⊎◌}, Values.{all_intervals-values, meets_of-values, minus-values}}, semver_core.proofs.FlatMaps.lone}

module _ {V : Type 0} {R : V → V → Ordering} (o : IsTotalOrder R) (F : Bound V → Bool) where
  -- an interval with such bounds
  abbrev pub is_fine : Span V → Bool
  is_fine s = is_interval R s && (F s.lower && F s.upper)

  fine_bounds : (s : Span V) → is_fine s ≡ true → (F s.lower ≡ true) × (F s.upper ≡ true)
  fine_bounds s h = grind arith

  one_fine : (s : Span V) → is_interval R s ≡ true → F s.lower ≡ true → F s.upper ≡ true → list_all is_fine (s ∷ []) ≡ true
  one_fine s h k l = grind arith

  fine-meet : (s t : Span V) → is_fine s ≡ true → is_fine t ≡ true → list_all is_fine (option_to_list (meet R s t)) ≡ true
  fine-meet s t h k =
      let (a, b) = fine_bounds s h in
      let (c, d) = fine_bounds t k in
      cond_both _ (Some _) None (λ m. list_all is_fine (option_to_list m) ≡ true) (λ i. one_fine _ i
      (cond_both (is_gt (cut_cmp R (lower_cut s.lower) (lower_cut t.lower))) s.lower t.lower (λ e. F e ≡ true) (λ _. a) (λ _. c))
      (cond_both (is_gt (cut_cmp R (upper_cut s.upper) (upper_cut t.upper))) t.upper s.upper (λ e. F e ≡ true) (λ _. d) (λ _. b)))
      (λ _. refl)

  -- what is left below t begins below t's lower cut, which its upper bound makes again; and so above t
  fine-left_below : (s t : Span V) → F s.lower ≡ true → F t.lower ≡ true → list_all is_fine (option_to_list (left_below R s t)) ≡ true
  fine-left_below s t h k = grind (arith, turned_lower)

  fine-left_above : (s t : Span V) → F t.upper ≡ true → F s.upper ≡ true → list_all is_fine (option_to_list (left_above R s t)) ≡ true
  fine-left_above s t h k = grind (arith, turned_upper)

  fine-remainder : (s t : Span V) → is_fine s ≡ true → is_fine t ≡ true → list_all is_fine (remainder R s t) ≡ true
  fine-remainder s t h k = remainders_by o s t (λ r. list_all is_fine (option_to_list r.0 ++ option_to_list r.1) ≡ true)
      (λ _. let (a, b) = fine_bounds s h in
      let (c, d) = fine_bounds t k in
      list_all-append is_fine (option_to_list (left_below R s t)) (option_to_list (left_above R s t))
      ∙ and_from _ _ (fine-left_below s t a c) (fine-left_above s t d b)) (λ _. rw h refl)

  pub fine-meets_of : (ss ts : List (Span V)) → list_all is_fine ss ≡ true → list_all is_fine ts ≡ true → list_all is_fine (meets_of R ss ts) ≡ true
  fine-meets_of ss ts h k = grind (arith, all_flat, all_weaker, fine-meet)

  pub fine-minus : (ss ts : List (Span V)) → list_all is_fine ss ≡ true → list_all is_fine ts ≡ true → list_all is_fine (minus R ss ts) ≡ true
  fine-minus ss [] h k = h
  fine-minus ss (t ∷ ts) h k =
      let (first, rest) = and_parts (is_fine t) (list_all is_fine ts) k in
      fine-minus (flat_map (λ s. remainder R s t) ss) ts (all_flat is_fine _ ss
      ∙ all_weaker is_fine _ (λ s e. fine-remainder s t e first) ss h) rest

-- ---- what the intersection and the difference hold and accept

-- what two lists of one interval each have in common
pub meets_of-lone : {V : Type 0} (R : V → V → Ordering) (xs ys : List (Span V)) (s t : Span V) → length xs ≡ 1 → length ys ≡ 1
    → s ≡ get_or xs 0 s → t ≡ get_or ys 0 t → meets_of R xs ys ≡ option_to_list (meet R s t)
meets_of-lone R xs ys s t e f g h = grind (arith, lone, append-nil)

-- what holds of a list holds of a result that is this list
pub of_result : {E : Type 0} (list : Option (List (Span VersionValue))) (r : Result (Option (List (Span VersionValue))) E)
    → IfOk r (λ q. q ≡ list) → (P : Option (List (Span VersionValue)) → Type 0) → P list → IfOk r P
of_result list r e P h = IfOk-weaker r _ P (λ q k. subst P (sym k) h) e

pub intersection-set : (a b : List (Span VersionValue)) (v : VersionValue)
    → option_list_holds precedence (intersection a b) v ≡ (list_holds precedence a v && list_holds precedence b v)
intersection-set a b v = option_list_holds-if_any precedence (meets_of precedence a b) v ∙ list_holds-meets_of precedence_total a b v

pub difference-set : (a b : List (Span VersionValue)) (v : VersionValue)
    → option_list_holds precedence (difference a b) v ≡ (list_holds precedence a v && not (list_holds precedence b v))
difference-set a b v = option_list_holds-if_any precedence (minus precedence a b) v ∙ list_holds-minus precedence_total a b v

pub intersection-all : (a b : List (Span VersionValue)) (v : VersionValue) → option_accepts (intersection a b) v true ≡ (accepts a v true && accepts b v true)
intersection-all a b v = grind (arith, accepts-held, intersection-set a b v)

pub difference-all : (a b : List (Span VersionValue)) (v : VersionValue) → option_accepts (difference a b) v true ≡ (accepts a v true && not (accepts b v true))
difference-all a b v = grind (arith, accepts-held, difference-set a b v)

pub intersection-releases : (a b : List (Span VersionValue)) (v : VersionValue) → is_release v ≡ true
    → option_accepts (intersection a b) v false ≡ (accepts a v false && accepts b v false)
intersection-releases a b v h = grind (arith, accepts-release, intersection-set a b v)

pub difference-releases : (a b : List (Span VersionValue)) (v : VersionValue) → is_release v ≡ true
    → option_accepts (difference a b) v false ≡ (accepts a v false && not (accepts b v false))
difference-releases a b v h = grind (arith, accepts-release, difference-set a b v)

-- the spans of a range are intervals
pub all_intervals : (n : ℕ) (ss : List (Span VersionValue)) → list_all (is_range_span n) ss ≡ true → list_all (is_interval precedence) ss ≡ true
all_intervals n = all_weaker (is_range_span n) (is_interval precedence) (λ s h. first_so _ _ h)

pub ordered_intervals : (ss range : List (Span VersionValue)) → ss ≡ range → IsRange MAX_SAFE_INTEGER range → list_all (is_interval precedence) ss ≡ true
ordered_intervals ss range e h = ap (list_all (is_interval precedence)) e ∙ all_intervals (MAX_SAFE_INTEGER + 1) range h.each

-- the lists of two ranges make intervals of a range, whatever holds their versions
module _ {V : Type 0} (R : V → V → Ordering) (value : V → VersionValue)
    (ordered : (v w : V) → R v w ≡ precedence (value v) (value w))
    (a b : List (Span VersionValue)) (xs ys : List (Span V)) (h : IsRange MAX_SAFE_INTEGER a) (k : IsRange MAX_SAFE_INTEGER b)
    (p : spans_of value xs ≡ a) (q : spans_of value ys ≡ b) where
  pub meets_of-is : spans_of value (meets_of R xs ys) ≡ meets_of precedence a b
  meets_of-is = meets_of-values R value ordered xs ys ∙ ap₂ (meets_of precedence) p q

  pub minus-is : spans_of value (minus R xs ys) ≡ minus precedence a b
  minus-is = minus-values R value ordered xs ys ∙ ap₂ (minus precedence) p q

  pub meets_of-valid : list_all (is_range_span (MAX_SAFE_INTEGER + 1)) (spans_of value (meets_of R xs ys)) ≡ true
  meets_of-valid = rw meets_of-is (fine-meets_of precedence_total (is_range_bound (MAX_SAFE_INTEGER + 1)) a b h.each k.each)

  pub minus-valid : list_all (is_range_span (MAX_SAFE_INTEGER + 1)) (spans_of value (minus R xs ys)) ≡ true
  minus-valid = rw minus-is (fine-minus precedence_total (is_range_bound (MAX_SAFE_INTEGER + 1)) a b h.each k.each)

  -- where the lists have an intersection or a difference, the ranges do
  pub meets_of-some : 0 < length (meets_of R xs ys) → IsTrue (is_some (intersection a b))
  meets_of-some e = grind (arith, meets_of-is, length-map)

  pub minus-some : (0 < length (minus R xs ys)) ⊎ (length ys ≢ 1) → IsTrue (is_some (difference a b)) ⊎ (1 < length b)
  minus-some (inl e) = grind (arith, minus-is, length-map)
  minus-some (inr n) = inr (omega (arith, k.some, n, length-map ys (span_of value), ap length q))

  pub intervals-ordered : list_all (is_interval R) xs ≡ true
  intervals-ordered = sym (all_intervals-values R value ordered xs) ∙ ap (list_all (is_interval precedence)) p ∙ all_intervals (MAX_SAFE_INTEGER + 1) a h.each
