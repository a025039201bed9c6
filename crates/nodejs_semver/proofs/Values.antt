-- What holds of spans of versions holds of the spans of their values, where the order of the versions is that of the values.
use Rattle.nodejs_semver.proofs.Common.{AreTaking, Bool, Bound, List, None, Option, Ordering, Some, Span, TakesMemory, VersionValue, [], ap}
use Rattle.nodejs_semver.proofs.Common.{append-nil, append_assoc, arith, bound_of, codes, common_steps, cut_cmp, false, flat_map, flat_map-append}
use Rattle.nodejs_semver.proofs.Common.{flat_map-map, get_or, greater_lower, has_bound, if◌then◌else◌, inl, inr, interval, is_interval}
use Rattle.nodejs_semver.proofs.Common.{is_range_bound, is_range_span, is_some, join_by, left_above, left_below, length, length-map, lesser_upper}
use Rattle.nodejs_semver.proofs.Common.{list_all, list_all-map, list_any, lower_cut, map, map-append, meet, meets_of, minus, nat_tests, option_map}
use Rattle.nodejs_semver.proofs.Common.{option_to_list, passes, precedence, range_text, refl, remainder, span_of, span_text, spans_of, sym, take}
use Rattle.nodejs_semver.proofs.Common.{take_next, true, upper_cut, ℕ, ◌&&◌, ◌++◌, ◌+◌, ◌<◌, ◌==◌, ◌∙◌, ◌∷◌, ◌≡◌}
use Rattle.semver_core.specs.Values.Memory.{takes_memory}

-- versions that are their own values
pub spans_same : (ss : List (Span VersionValue)) → spans_of (λ v. v) ss ≡ ss
spans_same [] = refl
spans_same (s ∷ ss) = grind (arith, spans_same ss)

-- the text of a range of values, as a loop over its intervals writes it
abbrev pub printed : {V : Type 0} → (V → VersionValue) → List (Span V) → List ℕ
printed value ss = join_by (λ s. span_text (span_of value s)) (codes "||") ss

pub printed-values : {V : Type 0} (value : V → VersionValue) (ss : List (Span V))
    → printed value ss ≡ range_text (spans_of value ss)
printed-values value [] = refl
printed-values value (s ∷ ss) = grind (arith, nat_tests, common_steps, flat_map-map)

-- a list is mapped one element further
pub map-further : {A B : Type 0} (f : A → B) (xs : List A) (i : ℕ) (x : A) → i < length xs → x ≡ get_or xs i x
    → map f (take (i + 1) xs) ≡ map f (take i xs) ++ f x ∷ []
map-further f xs i x within at = ap (map f) (take_next xs i x within at) ∙ map-append f (take i xs) (x ∷ [])

-- what is mapped over some elements, and over none
pub map-some : {A B : Type 0} (f : A → B) (xs : List A) → false ≡ (length xs == 0) → 0 < length (map f xs)
map-some f [] e = cc e
map-some f (x ∷ xs) e = omega arith

pub map-none : {A B : Type 0} (f : A → B) (xs : List A) → true ≡ (length xs == 0) → map f xs ≡ []
map-none f [] e = refl
map-none f (x ∷ xs) e = grind (arith, nat_tests)

-- what is mapped over a choice, an option, and lists that are joined
some-map : {A B : Type 0} (f : A → B) (m : Option A) → is_some (option_map f m) ≡ is_some m
some-map f m = grind arith

list-map : {A B : Type 0} (f : A → B) (m : Option A) → map f (option_to_list m) ≡ option_to_list (option_map f m)
list-map f m = grind arith

abbrev listed : {A : Type 0} → Option A × Option A → List A
listed parts = option_to_list parts.0 ++ option_to_list parts.1

listed-map : {A B : Type 0} (f : A → B) (t : Bool) (x y : Option A) (s : A)
    → map f (listed (if t then (x, y) else (Some s, None)))
    ≡ listed (if t then (option_map f x, option_map f y) else (Some (f s), None))
listed-map f t x y s = grind (arith, map-append)

flat-map : {A B C D : Type 0} (f : C → D) (g : A → List C) {h : A → B} (k : B → List D) → ((x : A) → map f (g x) ≡ k (h x))
    → (xs : List A) → map f (flat_map g xs) ≡ flat_map k (map h xs)
flat-map f g k e [] = refl
flat-map f g k e (x ∷ xs) = grind (arith, map-append, e x, flat-map f g k e xs)

module _ {V : Type 0} (R : V → V → Ordering) (value : V → VersionValue)
    (ordered : (v w : V) → R v w ≡ precedence (value v) (value w)) where
  lower-values : (b c : Bound V) → cut_cmp R (lower_cut b) (lower_cut c)
      ≡ cut_cmp precedence (lower_cut (bound_of value b)) (lower_cut (bound_of value c))
  lower-values b c = grind (arith, ordered)

  upper-values : (b c : Bound V) → cut_cmp R (upper_cut b) (upper_cut c)
      ≡ cut_cmp precedence (upper_cut (bound_of value b)) (upper_cut (bound_of value c))
  upper-values b c = grind (arith, ordered)

  is_interval-values : (s : Span V) → is_interval R s ≡ is_interval precedence (span_of value s)
  is_interval-values s = grind (arith, ordered)

  -- an interval is one of a range by its bounds alone
  pub range_span : (limit : ℕ) (s : Span V) → is_interval R s ≡ true → (is_range_bound limit (bound_of value s.lower)
      && is_range_bound limit (bound_of value s.upper)) ≡ is_range_span limit (span_of value s)
  range_span limit s h = rw (sym (is_interval-values s), h) refl

  pub all_intervals-values : (ss : List (Span V))
      → list_all (is_interval precedence) (spans_of value ss) ≡ list_all (is_interval R) ss
  all_intervals-values ss = list_all-map _ (span_of value) ss ∙ (λ i. list_all (λ s. sym (is_interval-values s) i) ss)

  greater_lower-values : (b c : Bound V) → bound_of value (greater_lower R b c)
      ≡ greater_lower precedence (bound_of value b) (bound_of value c)
  greater_lower-values b c = grind (arith, lower-values)

  lesser_upper-values : (b c : Bound V) → bound_of value (lesser_upper R b c)
      ≡ lesser_upper precedence (bound_of value b) (bound_of value c)
  lesser_upper-values b c = grind (arith, upper-values)

  interval-values : (s : Span V) (t : Span VersionValue) → span_of value s ≡ t
      → option_map (span_of value) (interval R s) ≡ interval precedence t
  interval-values s t e = rw (← e) (grind (arith, is_interval-values))

  meet-values : (s t : Span V) → option_map (span_of value) (meet R s t) ≡ meet precedence (span_of value s) (span_of value t)
  meet-values s t =
      grind (arith, nat_tests, greater_lower-values s.lower t.lower, lesser_upper-values s.upper t.upper, interval-values)

  remainder-values : (s t : Span V) → spans_of value (remainder R s t) ≡ remainder precedence (span_of value s) (span_of value t)
  remainder-values s t =
      listed-map (span_of value) (is_some (meet R s t)) (left_below R s t) (left_above R s t) s
      ∙ (λ i. listed (if some i then (below i, above i) else (Some (span_of value s), None)))
    where
      some : is_some (meet R s t) ≡ is_some (meet precedence (span_of value s) (span_of value t))
      some = sym (some-map (span_of value) (meet R s t)) ∙ ap is_some (meet-values s t)

      below : option_map (span_of value) (left_below R s t) ≡ left_below precedence (span_of value s) (span_of value t)
      below = grind (arith, lower-values s.lower t.lower)

      above : option_map (span_of value) (left_above R s t) ≡ left_above precedence (span_of value s) (span_of value t)
      above = grind (arith, upper-values t.upper s.upper)

  pub meets_of-values : (ss ts : List (Span V))
      → spans_of value (meets_of R ss ts) ≡ meets_of precedence (spans_of value ss) (spans_of value ts)
  meets_of-values ss ts = grind (arith, nat_tests, common_steps, flat-map, list-map, meet-values)

  pub minus-values : (ss ts : List (Span V))
      → spans_of value (minus R ss ts) ≡ minus precedence (spans_of value ss) (spans_of value ts)
  minus-values ss [] = refl
  minus-values ss (t ∷ ts) =
      minus-values (flat_map (λ s. remainder R s t) ss) ts ∙ ap (λ l. minus precedence l (spans_of value ts))
      (flat-map (span_of value) _ (λ s. remainder precedence s (span_of value t)) (λ s. remainder-values s t) ss)

-- what takes memory to copy, wherever the values of the versions do
module _ {V : Type 0} (takes : V → Bool) (value : V → VersionValue)
    (copied : (v : V) → takes v ≡ true → takes_memory (value v) ≡ true) where
  passes-values : (b : Bound V) → passes takes b ≡ true → passes takes_memory (bound_of value b) ≡ true
  passes-values b h = grind (arith, copied)

  any-values : (ss : List (Span V)) → list_any (has_bound takes) ss ≡ true
      → list_any (has_bound takes_memory) (spans_of value ss) ≡ true
  any-values [] h = h
  any-values (s ∷ ss) h = grind (arith, passes-values, any-values ss)

  pub taking-values : (ss : List (Span V)) (ts : List (Span VersionValue)) → spans_of value ss ≡ ts → AreTaking takes ss
      → TakesMemory ts
  taking-values ss ts e (inl many) = inl (omega (arith, many, length-map ss (span_of value), ap length e))
  taking-values ss ts e (inr any) = inr (rw (sym e) (any-values ss any))

-- ---- what a loop over intervals has written

abbrev joined : {A : Type 0} → (A → List ℕ) → List A → List ℕ
joined text xs = join_by text (codes "||") xs

-- what stands before the next interval: nothing, and after the first one two bars
abbrev pub bars_after : {A : Type 0} → List A → List ℕ
bars_after [] = []
bars_after (s ∷ rest) = 124 ∷ 124 ∷ []

pub range_step : {A : Type 0} (text : A → List ℕ) (xs : List A) (i : ℕ) (separator : List ℕ) (x : A) → i < length xs
    → separator ≡ bars_after (take i xs) → x ≡ get_or xs i x
    → joined text (take i xs) ++ (separator ++ text x) ≡ joined text (take (i + 1) xs)
range_step text xs i separator x lt e h = grind (arith, nat_tests, common_steps, take_next, append-nil, flat_map-append, append_assoc)

pub bars_step : {A : Type 0} (xs : List A) (i : ℕ) (x : A) → i < length xs → x ≡ get_or xs i x
    → 124 ∷ 124 ∷ [] ≡ bars_after (take (i + 1) xs)
bars_step xs i x lt h = grind (arith, take_next)
