-- What two lists of spans hold and accept: their intersection, and what one leaves of the other.
use Rattle.nodejs_semver.proofs.Common.{Bool, IsTotalOrder, List, Option, Ordering, Span, VersionValue, [], accepts, and-true, and_cases, and_parts}
use Rattle.nodejs_semver.proofs.Common.{any_either, any_flat, any_pairs, any_same, any_weaker, arith, between_parts, false, flat_map, get_or, holds}
use Rattle.nodejs_semver.proofs.Common.{if_any, interval, is_interval, is_past, is_release, is_some, left_above, left_below, length, lets_in}
use Rattle.nodejs_semver.proofs.Common.{list_any, list_any-append, list_holds, lower_cut, lt, meet, meets_of, minus, not, not-false, not-true}
use Rattle.nodejs_semver.proofs.Common.{option_accepts, option_holds, option_holds-interval, option_holds-meet, option_list_holds, option_to_list}
use Rattle.nodejs_semver.proofs.Common.{or_left, or_parts, or_right, past_below, precedence, precedence_total, refl, remainder, remainders-hold}
use Rattle.nodejs_semver.proofs.Common.{remainders_by, sym, take, true, turned_lower, turned_upper, upper_cut, ℕ, ◌&&◌, ◌++◌, ◌+◌, ◌<◌, ◌||◌, ◌∙◌}
use Rattle.{nodejs_semver.proofs.Common.{◌∷◌, ◌≡◌}, semver_core.proofs.Gate.{both, lets_in-meet, lets_in_one, names_above, names_below}}
use Rattle.std.proofs.lemmas.List.Folds.{list_any_at, list_any_more}

-- ---- the points of lists

module _ {V : Type 0} {R : V → V → Ordering} (o : IsTotalOrder R) where
  holds_option : (m : Option (Span V)) (v : V) → list_holds R (option_to_list m) v ≡ option_holds R m v
  holds_option m v = grind arith

  -- what two lists have in common is the points that both hold
  pub list_holds-meets_of : (ss ts : List (Span V)) (v : V) → list_holds R
      (meets_of R ss ts) v ≡ (list_holds R ss v && list_holds R ts v)
  list_holds-meets_of ss ts v = any_flat _ _ ss ∙ any_same _ _ (λ s. any_flat _ _ ts ∙ any_same _ (λ t. holds R s v && holds R t v)
      (λ t. holds_option (meet R s t) v ∙ option_holds-meet o s t v) ts) ss
      ∙ any_pairs (λ s. holds R s v) (λ t. holds R t v) ss ts

  minus_one : (ss : List (Span V)) (t : Span V) (v : V) → list_holds R
      (flat_map (λ s. remainder R s t) ss) v ≡ (list_holds R ss v && not (holds R t v))
  minus_one [] t v = refl
  minus_one (s ∷ ss) t v = grind (arith, list_any-append, left, spread, minus_one ss t v)
    where
      spread : (a b c : Bool) → ((a && c) || (b && c)) ≡ ((a || b) && c)
      spread a b c = grind arith

      left : list_holds R (remainder R s t) v ≡ (holds R s v && not (holds R t v))
      left = grind (arith, list_any-append, holds_option, remainders-hold)

  -- what is left of a list is the points that it holds and the other does not
  pub list_holds-minus : (ss ts : List (Span V)) (v : V) → list_holds R
      (minus R ss ts) v ≡ (list_holds R ss v && not (list_holds R ts v))
  list_holds-minus ss [] v = sym (and-true _)
  list_holds-minus ss (t ∷ ts) v = grind (arith, minus_one, list_holds-minus (flat_map (λ s. remainder R s t) ss) ts v)

pub option_list_holds-if_any : {V : Type 0} (R : V → V → Ordering) (ss : List (Span V)) (v : V) → option_list_holds R (if_any ss) v ≡ list_holds R ss v
option_list_holds-if_any R ss v = grind arith

-- ---- the gate

-- the span holds v and lets it in
abbrev admits : VersionValue → Span VersionValue → Bool
admits v s = holds precedence s v && lets_in s v

-- a test of what there is of a span, if it is an interval
any_interval : (p : Span VersionValue → Bool) (s : Span VersionValue) → list_any p (option_to_list (interval precedence s)) ≡ (is_interval precedence s && p s)
any_interval p s = grind arith

-- what two spans have in common admits what both hold and one lets in
admits-meet : (s t : Span VersionValue) (v : VersionValue)
    → list_any (admits v) (option_to_list (meet precedence s t)) ≡ ((holds precedence s v && holds precedence t v) && (lets_in s
    v || lets_in t v))
admits-meet s t v = any_interval (admits v) (both s t) ∙ exact _ _ _ _ _ _ (λ h. grind (arith, and_parts, past_below, precedence_total, both, not-true))
    (sym (option_holds-interval precedence_total (both s t) v) ∙ option_holds-meet precedence_total s t v)
    (lets_in_one s t v) (lets_in-meet s t v)
  where
    exact : (i h l p q m : Bool) → (h ≡ true → i ≡ true) → h ≡ (p && q) → (l ≡ true → m ≡ true)
        → (p ≡ true → q ≡ true → m ≡ true → l ≡ true) → (i && (h && l)) ≡ ((p && q) && m)
    exact i h l p q m f e g k = grind arith

accepts-meets_of : (ss ts : List (Span VersionValue)) (v : VersionValue) → accepts (meets_of precedence ss ts) v false ≡ list_any (λ s. list_any
    (λ t. (holds precedence s v && holds precedence t v) && (lets_in s v || lets_in t v)) ts) ss
accepts-meets_of ss ts v = any_flat (admits v) _ ss ∙ any_same _ _
    (λ s. any_flat (admits v) _ ts ∙ any_same _ _ (λ t. admits-meet s t v) ts) ss

pub option_accepts-if_any : (ss : List (Span VersionValue)) (v : VersionValue) (include : Bool) → option_accepts (if_any ss) v include ≡ accepts ss v include
option_accepts-if_any ss v include = grind arith

-- the intersection accepts what both accept, and nothing that neither accepts
pub both_accept : (ss ts : List (Span VersionValue)) (v : VersionValue) → accepts ss v false ≡ true → accepts ts v false ≡ true
    → option_accepts (if_any (meets_of precedence ss ts)) v false ≡ true
both_accept ss ts v h k = grind (arith, option_accepts-if_any, accepts-meets_of, any_weaker, both_in)
  where
    both_in : (p l q m : Bool) → (p && l) ≡ true → (q && m) ≡ true → ((p && q) && (l || m)) ≡ true
    both_in p l q m f g = grind arith

pub one_accepts : (ss ts : List (Span VersionValue)) (v : VersionValue)
    → option_accepts (if_any (meets_of precedence ss ts)) v false ≡ true → (accepts ss v false || accepts ts v false) ≡ true
one_accepts ss ts v h = any_either _ (admits v) (admits v) (λ s t. one_in (holds precedence s v) (lets_in s v) (holds precedence t v)
    (lets_in t v)) ss ts (sym (option_accepts-if_any (meets_of precedence ss ts) v false ∙ accepts-meets_of ss ts v) ∙ h)
  where
    one_in : (p l q m : Bool) → ((p && q) && (l || m)) ≡ true → ((p && l) || (q && m)) ≡ true
    one_in p l q m h = grind arith

-- what s admits and t does not hold, what t leaves of s admits
remainder_admits : (s t : Span VersionValue) (v : VersionValue) → admits v s ≡ true → holds precedence t v ≡ false
    → list_any (admits v) (remainder precedence s t) ≡ true
remainder_admits s t v h k = remainders_by precedence_total s t (λ r. list_any (admits v) (option_to_list r.0 ++ option_to_list r.1) ≡ true)
    (λ m. grind (arith, between_parts, precedence_total, list_any-append, and_cases, or_left, below, or_right, above, not-false))
    (λ _. or_left (admits v s) false h)
  where
    at : (is_past precedence (lower_cut s.lower) v ≡ true) × (is_past precedence (upper_cut s.upper) v ≡ false)
    at = let (p, q) = and_parts _ _ (and_parts (holds precedence s v) _ h).0 in (p, not-true _ q)

    let_in : lets_in s v ≡ true
    let_in = (and_parts (holds precedence s v) _ h).1

    below : lt precedence_total (lower_cut t.lower) (upper_cut s.upper) ≡ true → is_past precedence (lower_cut t.lower) v ≡ false → list_any (admits v)
        (option_to_list (left_below precedence s t)) ≡ true
    below m e =
        let i = past_below precedence_total (lower_cut s.lower) (lower_cut t.lower) v at.0 e in
        let turned = turned_lower precedence_total t.lower (lower_cut s.lower) i in
        rw (i, turned) (grind (arith, at, e, let_in, names_below s.upper t.lower v))

    above : lt precedence_total (lower_cut s.lower) (upper_cut t.upper) ≡ true → is_past precedence (upper_cut t.upper) v ≡ true
        → list_any (admits v) (option_to_list (left_above precedence s t)) ≡ true
    above m e =
        let i = past_below precedence_total (upper_cut t.upper) (upper_cut s.upper) v e at.1 in
        let turned = turned_upper precedence_total t.upper (upper_cut s.upper) i in
        rw (i, turned) (grind (arith, at, e, let_in, names_above s.lower t.upper v))

-- what one list accepts and the other does not hold, what is left accepts
accepts-minus : (ss ts : List (Span VersionValue)) (v : VersionValue) → accepts ss v false ≡ true
    → list_holds precedence ts v ≡ false → accepts (minus precedence ss ts) v false ≡ true
accepts-minus ss [] v h k = h
accepts-minus ss (t ∷ ts) v h k =
    let (here, there) = or_parts (holds precedence t v) (list_holds precedence ts v) k in
    accepts-minus (flat_map (λ s. remainder precedence s t) ss) ts v
    (any_flat (admits v) _ ss ∙ any_weaker (admits v) _ (λ s a. remainder_admits s t v a here) ss h) there

pub difference_accepts : (ss ts : List (Span VersionValue)) (v : VersionValue) → accepts ss v false ≡ true
    → list_holds precedence ts v ≡ false → option_accepts (if_any (minus precedence ss ts)) v false ≡ true
difference_accepts ss ts v h k = grind (arith, option_accepts-if_any, accepts-minus)

-- of releases a list accepts those that it holds, and all with pre-releases included
pub accepts-release : (ss : List (Span VersionValue)) (v : VersionValue) → is_release v ≡ true → accepts ss v false ≡ list_holds precedence ss v
accepts-release ss v r = any_same _ _ (λ s. rw r (and-true (holds precedence s v))) ss

pub accepts-held : (ss : List (Span VersionValue)) (v : VersionValue) → accepts ss v true ≡ list_holds precedence ss v
accepts-held ss v = any_same _ _ (λ s. and-true (holds precedence s v)) ss

-- there is an intersection exactly where some pair meets
if_any_some : {A : Type 0} (xs : List A) → is_some (if_any xs) ≡ list_any (λ _. true) xs
if_any_some xs = grind arith

option_some : {A : Type 0} (m : Option A) → is_some m ≡ list_any (λ _. true) (option_to_list m)
option_some m = grind arith

pub meets_one_some : {V : Type 0} (R : V → V → Ordering) (ss ts : List (Span V)) → list_any
    (λ s. list_any (λ t. is_some (meet R s t)) ts) ss ≡ is_some (if_any (meets_of R ss ts))
meets_one_some R ss ts = grind (arith, any_same, option_some, any_flat, if_any_some)

-- no element up to here passes the test
pub none_further : {A : Type 0} (p : A → Bool) (xs : List A) (i : ℕ) (x : A) → i < length xs → x ≡ get_or xs i x
    → list_any p (take i xs) ≡ false → p x ≡ false → list_any p (take (i + 1) xs) ≡ false
none_further p xs i x within at h k = grind (arith, list_any_more p xs i x)

pub one_passes : {A : Type 0} (p : A → Bool) (xs : List A) (i : ℕ) (x : A) → i < length xs → x ≡ get_or xs i x → p x ≡ true → list_any p xs ≡ true
one_passes p xs i x within at h = grind (arith, list_any_at p xs i x)
