-- Spans of versions of any kind, read one by one as the spans of their values.
use Rattle.nodejs_semver.proofs.Common.{All, All-get_or, All-tail, All-weaker, AllPass-from_list_all, Any, BeginsAfterPre, Bool, Bound, Err, IfNone}
use Rattle.nodejs_semver.proofs.Common.{IfSome, IsAfterPre, IsLeastSoFar, IsRaisable, IsRange, List, MAX_SAFE_INTEGER, None, Option, Raisable, Result}
use Rattle.nodejs_semver.proofs.Common.{Some, Span, VersionValue, [], accepts, all_accept, and-true, and_parts, ap, arith, below_named, beside}
use Rattle.nodejs_semver.proofs.Common.{beyond, bound_of, build_by, candidates, common_steps, cond_both, false, false≢true, find, find-append}
use Rattle.nodejs_semver.proofs.Common.{first_so, firsts, flat_map, flat_map-append, fold, fold-append, get_or, get_or-map, holds, inl, inr, is_le}
use Rattle.nodejs_semver.proofs.Common.{is_lt, is_range_span, least_build, length, length-map, lets_in, list_any, list_any-append, list_marks, map}
use Rattle.nodejs_semver.proofs.Common.{map-append, nat_tests, not, not_if, option_and_then, option_map, or-false, or_cases, precedence}
use Rattle.nodejs_semver.proofs.Common.{precedence_total, refl, removed_marks, span_of, spans_of, sym, take, take_next, tells, tied_itself, true, ℕ}
use Rattle.nodejs_semver.proofs.{Common.{◌&&◌, ◌++◌, ◌+◌, ◌-◌, ◌<◌, ◌^◌, ◌||◌, ◌∙◌, ◌∷◌, ◌≡◌, ◌⊎◌}, Values.map-further}
use Rattle.nodejs_semver.specs.Internal.Candidates.{EndsAfterPre, Finds, IsLeastBuilt, MayAllocate, StartsWith, first_past, has_build, lesser, zero}
use Rattle.{nodejs_semver.specs.Ranges.Least.{begins_with, names_identifiers}, semver_core.proofs.Gate.{le_of_lt, le_trans, lt_is, lt_le, past_order}}
use Rattle.{semver_core.specs.{Cuts.{has_bound, passes}, Lists.is_empty, Values.Versions.{HasIdentifiers, is_release}}, std.proofs.Math.Bool.or-true}
use Rattle.std.{proofs.lemmas.List.Folds.list_any_at, specs.{Option.option_or, Result.{IsOkAnd, MatchResult, OnErr}}}

-- the patch of a bound of a range can be raised
module _ (limit : ℕ) (far : limit < 2 ^ 64 - 1) where
  span_raisable : (s : Span VersionValue) → is_range_span limit s ≡ true → IsRaisable s
  span_raisable s h = grind (arith, and_parts)

pub raisable : (ss : List (Span VersionValue)) → IsRange MAX_SAFE_INTEGER ss → All IsRaisable ss
raisable ss h = grind (arith, All-weaker, span_raisable, AllPass-from_list_all)

-- one span of a list
module _ {V : Type 0} (value : V → VersionValue) (xs : List (Span V)) (i : ℕ) (x : Span V) (within : i < length xs)
    (at : x ≡ get_or xs i x) where
  same_at : (d : Span VersionValue) → get_or (spans_of value xs) i d ≡ span_of value x
  same_at d = get_or-map (span_of value) xs i x d within ∙ ap (span_of value) (sym at)

  long_at : i < length (spans_of value xs)
  long_at = omega (arith, within, length-map xs (span_of value))

  pub raisable_at : All IsRaisable (spans_of value xs) → IsRaisable (span_of value x)
  raisable_at h =
      grind (arith, same_at, long_at, All-get_or IsRaisable (spans_of value xs) i (span_of value x))

  pub any_at : (P : Span VersionValue → Type 0) → P (span_of value x) → Any P (spans_of value xs)
  any_at P h = (i, span_of value x, long_at, same_at (span_of value x), h)

  pub lower_raisable : (ss : List (Span VersionValue)) → IsRange MAX_SAFE_INTEGER ss → spans_of value xs ≡ ss
      → (b : Bound V) → b ≡ x.lower → Raisable (bound_of value b)
  lower_raisable ss h e b k = grind (arith, nat_tests, common_steps, raisable_at, raisable)

  pub begins_after : {P : Type 0} (ss : List (Span VersionValue)) → spans_of value xs ≡ ss → (b : Bound V) → b ≡ x.lower
      → P ⊎ IsAfterPre (bound_of value b) → P ⊎ BeginsAfterPre ss
  begins_after ss e b k h = grind (arith, any_at (λ s. IsAfterPre s.lower))

-- what a list of spans of any kind finds is what the spans of its values find
find-map : {A B : Type 0} (f : A → B) (p : B → Bool) (xs : List A) → find p (map f xs) ≡ option_map f (find (λ x. p (f x)) xs)
find-map f p [] = refl
find-map f p (x ∷ xs) = grind (arith, find-map f p xs)

pub found_value : {A B C : Type 0} (f : B → C) (g : A → B) (p : C → Bool) (xs : List B) (r : Option A)
    → option_map g r ≡ find (λ x. p (f x)) xs → option_map (λ a. f (g a)) r ≡ find p (map f xs)
found_value f g p xs r e = grind (arith, find-map f p xs)

find_all : {X : Type 0} (P : X → Type 0) (p : X → Bool) (xs : List X) → All P xs → IfSome (find p xs) P
find_all P p [] h = tt
find_all P p (x ∷ xs) h = grind (arith, h 0 x, find_all P p xs (All-tail P x xs h))

pub found_raisable : {A : Type 0} (g : A → Span VersionValue) (p : Span VersionValue → Bool) (ss : List (Span VersionValue)) (r : Option A)
    → option_map g r ≡ find p ss → All IsRaisable ss → IfSome r (λ a. Raisable (g a).lower)
found_raisable g p ss r e h = grind (arith, find_all IsRaisable p ss h)

-- ---- one further span in the search for a least version

pub any_here : {X : Type 0} (P : X → Type 0) (xs : List X) (i : ℕ) (x : X) → i < length xs → x ≡ get_or xs i x → P x → Any P xs
any_here P xs i x within at h = (i, x, within, sym at, h)

-- all marks, after the first version of all
pub all_marks : (step : Option VersionValue → VersionValue → Option VersionValue) (kss : List (List (Span VersionValue))) (ls : List (Span VersionValue))
    (old first mid new : Option VersionValue) → first ≡ step old zero
    → mid ≡ fold step first (flat_map firsts (flat_map list_marks kss))
    → new ≡ fold step mid (flat_map firsts (flat_map removed_marks ls)) → new ≡ fold step old (candidates kss ls)
all_marks step kss ls old first mid new f m n = grind (arith, common_steps, f, m, n, fold-append, flat_map-append)

pub range_further : (step : Option VersionValue → VersionValue → Option VersionValue) (kss : List (List (Span VersionValue))) (i : ℕ) (ks : List (Span VersionValue))
    → i < length kss → ks ≡ get_or kss i ks → (start old new : Option VersionValue)
    → old ≡ fold step start (flat_map firsts (flat_map list_marks (take i kss)))
    → new ≡ fold step old (flat_map firsts (list_marks ks))
    → new ≡ fold step start (flat_map firsts (flat_map list_marks (take (i + 1) kss)))
range_further step kss i ks within at start old new e k = grind (arith, common_steps, e, k, take_next kss i ks within at, fold-append, flat_map-append)

module _ {V : Type 0} (value : V → VersionValue) (step : Option VersionValue → VersionValue → Option VersionValue) (xs : List (Span V)) (i : ℕ) (x : Span V)
    (within : i < length xs) (at : x ≡ get_or xs i x) (start old new : Option VersionValue) where
  pub removed_further : old ≡ fold step start (flat_map firsts (flat_map removed_marks (spans_of value (take i xs))))
      → new ≡ fold step old (flat_map firsts (beside (bound_of value x.upper)))
      → new ≡ fold step start (flat_map firsts (flat_map removed_marks (spans_of value (take (i + 1) xs))))
  removed_further e k = grind (arith, nat_tests, common_steps, map-further, fold-append, flat_map-append)

  pub kept_further : (between : Option VersionValue) → old ≡ fold step start (flat_map firsts (list_marks (spans_of value (take i xs))))
      → between ≡ fold step old (flat_map firsts (beside (bound_of value x.lower)))
      → new ≡ fold step between (flat_map firsts (below_named (bound_of value x.upper)))
      → new ≡ fold step start (flat_map firsts (list_marks (spans_of value (take (i + 1) xs))))
  kept_further between e k m = grind (arith, nat_tests, common_steps, map-further, fold-append, flat_map-append)

  pub held_further : old ≡ fold step start (map (λ s. first_past s.lower) (spans_of value (take i xs)))
      → new ≡ step old (first_past (bound_of value x.lower))
      → new ≡ fold step start (map (λ s. first_past s.lower) (spans_of value (take (i + 1) xs)))
  held_further e k = grind (arith, nat_tests, common_steps, map-further, fold-append, map-append)

-- ---- the least version of spans each of which begins with a version that it accepts

-- what the span accepts is not below its start
above_start : (s : Span VersionValue) (w x : VersionValue) → StartsWith s w → holds precedence s x ≡ true → is_le (precedence w x) ≡ true
above_start s w x start h = grind (arith, nat_tests, past_order, tells (precedence w x))

-- what one more span accepts
one_more : (ss : List (Span VersionValue)) (s : Span VersionValue) (x : VersionValue)
    → accepts (ss ++ s ∷ []) x false ≡ (accepts ss x false || (holds precedence s x && lets_in s x))
one_more ss s x = list_any-append _ ss (s ∷ []) ∙ ap (λ t. accepts ss x false || t) (or-false _)

-- the first that passes is found, and so in front of others
find_none : {X : Type 0} (p : X → Bool) (xs : List X) → list_any p xs ≡ false → find p xs ≡ None
find_none p [] h = refl
find_none p (x ∷ xs) h = grind (arith, find_none p xs)

find_some : {X : Type 0} (p : X → Bool) (xs : List X) (o : Option X) → list_any p xs ≡ true → option_or (find p xs) o ≡ find p xs
find_some p [] o h = cc
find_some p (x ∷ xs) o h = grind (arith, find_some p xs o)

-- a start below all that was accepted so far is the least version
fresh : (ss : List (Span VersionValue)) (s : Span VersionValue) (w : VersionValue) → StartsWith s w
    → ((x : VersionValue) → accepts ss x false ≡ true → is_lt (precedence w x) ≡ true) → IsLeastBuilt (ss ++ s ∷ []) w
fresh ss s w start above = ((one_more ss s w ∙ grind (arith, start.1), least), sym built)
  where
    least : (x : VersionValue) → accepts (ss ++ s ∷ []) x false ≡ true → is_le (precedence w x) ≡ true
    least x h = grind (arith, or_cases, one_more, le_of_lt, above_start, first_so)

    fails : accepts ss w false ≡ false
    fails = not_if _ _ (above w) (ap is_lt (tied_itself precedence_total w))

    built : least_build (ss ++ s ∷ []) w ≡ w.build
    built = grind (arith, find-append, find_none, fails, tied_itself, precedence_total)

-- a least version stays so in front of a start that is not below it
kept : (ss : List (Span VersionValue)) (s : Span VersionValue) (v w : VersionValue) → IsLeastBuilt ss v → StartsWith s w
    → is_le (precedence v w) ≡ true → IsLeastBuilt (ss ++ s ∷ []) v
kept ss s v w h start le = ((one_more ss s v ∙ grind (arith, h.0.0), least), built)
  where
    least : (x : VersionValue) → accepts (ss ++ s ∷ []) x false ≡ true → is_le (precedence v x) ≡ true
    least x k = elim (or_cases _ _ (sym (one_more ss s x) ∙ k))
        [ inl m ↦ h.0.1 x m | inr m ↦ le_trans precedence_total v w x le (above_start s w x start (first_so _ _ m)) ]

    built : v.build ≡ least_build (ss ++ s ∷ []) v
    built = grind (arith, find-append, find_some)

step : (ss : List (Span VersionValue)) (best : Option VersionValue) (s : Span VersionValue) (w : VersionValue)
    → IsLeastSoFar ss best → StartsWith s w → IsLeastBuilt (ss ++ s ∷ []) (lesser best w)
step ss None s w e start = fresh ss s w start (λ x h. absurd (false≢true (rw e at h)))
step ss (Some b) s w h start = cond_both (is_le (precedence b w)) b w (IsLeastBuilt (ss ++ s ∷ [])) (kept ss s b w h start)
    (λ e. fresh ss s w start (λ x k. lt_le precedence_total w b x (lt_is precedence_total w b ∙ ap not e) (h.0.1 x k)))

-- one more span, at its place
pub one_further : {V : Type 0} (value : V → VersionValue) (xs : List (Span V)) (i : ℕ) (x : Span V) (best : Option VersionValue)
    (w next : VersionValue) → i < length xs → x ≡ get_or xs i x → IsLeastSoFar (spans_of value (take i xs)) best
    → StartsWith (span_of value x) w → next ≡ lesser best w → IsLeastBuilt (spans_of value (take (i + 1) xs)) next
one_further value xs i x best w next within at h start e =
    grind (arith, nat_tests, map-further (span_of value) xs i x within at, step (spans_of value (take i xs)) best (span_of value x) w h start)

pub on_none : {A : Type 0} {P : Type 0} (found : Option A) → P → IfNone found P
on_none found h = grind arith

-- ---- when the search for a least version may need memory

Any-none : {X : Type 0} (P : X → Type 0) → Any P [] → ⊥
Any-none P h = omega (arith, h.2)

Any-one : {X : Type 0} (P : X → Type 0) (x : X) → Any P (x ∷ []) → P x
Any-one P x h = grind (arith, common_steps, h.2, h.3, h.4)

pub one_allocates : (ks ls : List (Span VersionValue)) → MayAllocate true (ks ∷ []) ls
    → ((v : VersionValue) × (beyond ks ls v ≡ true)) ⊎ BeginsAfterPre ks ⊎ EndsAfterPre ls
one_allocates ks ls h = grind (arith, nat_tests, common_steps, and-true, Any-one)

-- beyond nothing
pub alone_allocates : (ks : List (Span VersionValue)) → MayAllocate true (ks ∷ []) []
    → ((v : VersionValue) × (accepts ks v false ≡ true)) ⊎ BeginsAfterPre ks
alone_allocates ks h = grind (arith, nat_tests, common_steps, one_allocates, and-true, Any-none)

pub all_allocate : (lists : List (List (Span VersionValue))) → MayAllocate true lists []
    → ((v : VersionValue) × (all_accept lists v ≡ true)) ⊎ Any BeginsAfterPre lists
all_allocate lists h = grind (arith, nat_tests, common_steps, and-true, Any-none)

-- where nothing is copied
pub trying_allocates : (ks ls : List (Span VersionValue)) → MayAllocate false (ks ∷ []) ls → BeginsAfterPre ks ⊎ EndsAfterPre ls
trying_allocates ks ls h = grind (arith, nat_tests, common_steps, Any-one)

-- with pre-releases included
pub held_allocates : (ks : List (Span VersionValue)) → Finds true (λ v. accepts ks v true) ⊎ BeginsAfterPre ks
    → ((v : VersionValue) × (accepts ks v true ≡ true)) ⊎ BeginsAfterPre ks
held_allocates ks h = grind arith

-- ---- where no bound has identifiers, nothing is allocated

abbrev named : VersionValue → Bool
named w = not (is_release w && is_empty w.build)

let_in_names : (s : Span VersionValue) (v : VersionValue) → lets_in s v ≡ true → is_release v ≡ false → has_bound named s ≡ true
let_in_names s v h k = grind arith

pub accepted_names : (ss : List (Span VersionValue)) (v : VersionValue) → accepts ss v false ≡ true → is_release v ≡ false
    → names_identifiers ss ≡ true
accepted_names [] v h k = absurd (false≢true h)
accepted_names (s ∷ ss) v h k = elim (or_cases (holds precedence s v && lets_in s v) (accepts ss v false) h) [
  | inl here ↦ rw (let_in_names s v (and_parts (holds precedence s v) (lets_in s v) here).1 k) refl
  | inr there ↦ rw (accepted_names ss v there k, or-true (has_bound named s)) refl
]

after_names : (b : Bound VersionValue) → IsAfterPre b → passes named b ≡ true
after_names b h = grind arith

pub begins_names : (ss : List (Span VersionValue)) → BeginsAfterPre ss → names_identifiers ss ≡ true
begins_names ss (i, s, within, at, h) =
    list_any_at (has_bound named) ss i s within (grind (arith, at, after_names s.lower h))

pub ends_names : (ss : List (Span VersionValue)) → EndsAfterPre ss → names_identifiers ss ≡ true
ends_names ss (i, s, within, at, h) =
    list_any_at (has_bound named) ss i s within (grind (arith, at, after_names s.upper h))

built_names : (b : Bound VersionValue) → has_build b ≡ true → passes named b ≡ true
built_names b h = grind arith

-- the version of the first span that passes a test, where it has build metadata
pub first_names : (p : Span VersionValue → Bool) (ss : List (Span VersionValue)) (s : Span VersionValue) → find p ss ≡ Some s
    → has_build s.lower ≡ true → names_identifiers ss ≡ true
first_names p [] s e h = cc
first_names p (x ∷ ss) s e h = grind (arith, built_names s.lower h, first_names p ss s)

pub build_names : (ss : List (Span VersionValue)) (v : VersionValue) → 0 < length (least_build ss v) → names_identifiers ss ≡ true
build_names ss v h = of_first (find first ss) refl h
  where
    first : Span VersionValue → Bool
    first s = holds precedence s v && lets_in s v

    of_first : (r : Option (Span VersionValue)) → find first ss ≡ r
        → 0 < length (build_by (option_and_then (λ s. begins_with s.lower) r) v)
        → names_identifiers ss ≡ true
    of_first None e h = absurd (omega (arith, h))
    of_first (Some s) e h = grind (arith, first_names first ss s e)

-- the search for a least version
pub one_names : (ks ls : List (Span VersionValue)) → MayAllocate true (ks ∷ []) ls
    → (names_identifiers ks ≡ true) ⊎ (names_identifiers ls ≡ true)
one_names ks ls h = grind (
  arith,
  common_steps,
  accepted_names ks,
  begins_names ks,
  Any-one BeginsAfterPre ks,
  ends_names ls,
)

pub alone_names : (ks : List (Span VersionValue)) → MayAllocate true (ks ∷ []) [] → names_identifiers ks ≡ true
alone_names ks h = grind (arith, one_names ks [])

-- a version that is accepted, with the build of its bound
pub least_names : (ss : List (Span VersionValue)) (v : VersionValue) → accepts ss v false ≡ true → v.build ≡ least_build ss v
    → HasIdentifiers v → names_identifiers ss ≡ true
least_names ss v h e has = grind (arith, accepted_names ss v, build_names ss v)

-- what `map(Some)` returns of an error
pub err-map : {A E : Type 0} (P : Type 0) (r : Result A E) (part : Result (Option A) E) → OnErr r P
    → MatchResult r (λ y. IsOkAnd part (λ p. p ≡ Some y)) (λ e. part ≡ Err e) → OnErr part P
err-map P r part h k = grind arith
