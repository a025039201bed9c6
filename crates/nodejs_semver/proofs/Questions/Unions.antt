-- Questions about ranges: parts of ranges, unions, and the ranges of some versions.
use Rattle.nodejs_semver.proofs.Common.{All, All-weaker, AreTaking, Bool, Bound, Contains, IfOk, IfOk-weaker, IsLeastOf, IsRange, IsTrue, List, None}
use Rattle.nodejs_semver.proofs.Common.{Option, Ordering, Result, Some, Span, VersionValue, [], accepts, and_parts, ap, append_assoc, ap₂, arith}
use Rattle.nodejs_semver.proofs.Common.{common_steps, drop, false, filter, get_or, gt_lt, has_bound, holds, if_any, if◌then◌else◌, is_empty}
use Rattle.nodejs_semver.proofs.Common.{is_past-down, is_range_span, is_release, length, length-append, lets_in, list_all, list_all-append, list_any}
use Rattle.nodejs_semver.proofs.Common.{list_any-append, list_any-map, map, map-append, names, nat_tests, not, not-true, or-false, or_cases, or_left}
use Rattle.nodejs_semver.proofs.Common.{or_parts, or_right, passes, precedence, precedence_total, refl, same_triple, span_of, spans_of, sym, take}
use Rattle.nodejs_semver.proofs.Common.{take-append-drop, tells, true, ℕ, ◌&&◌, ◌++◌, ◌+◌, ◌<◌, ◌||◌, ◌↔◌, ◌∙◌, ◌∷◌, ◌≡◌, ◌≤◌, ◌⊎◌}
use Rattle.nodejs_semver.specs.{Internal.Questions.{admits, is_said, is_used}, Ranges.{Simple.simplified, Subsets.{AcceptSame, IsSubset}}}
use Rattle.{nodejs_semver.specs.Ranges.Unions.{says_all, union}, semver_core.specs.Cuts.covers, std.proofs.lemmas.List.Elements.All-contains_itself}
use Rattle.std.{proofs.lemmas.List.{Elements.filter-append, Filters.length-filter_both, Folds.list_any_at}, specs.Prelude.is_none}

-- ---- parts of ranges

-- by the least version beyond, and by what a set of what is left has
pub by_least : (a b : List (Span VersionValue)) (set : VersionValue → Bool) (include : Bool)
    → ((v : VersionValue) → set v ≡ (accepts a v include && not (accepts b v include)))
    → (r : Option VersionValue) → IsLeastOf set r → IsTrue (is_none r) ↔ IsSubset include a b
by_least a b set include e r h = grind (arith, nat_tests, common_steps)

-- nothing is in a set that has no least version
pub none_in : (set : VersionValue → Bool) (r : Option VersionValue) → IsLeastOf set r → IsTrue (is_none r) ↔ ((v : VersionValue) → set v ≡ false)
none_in set r h = grind (arith, nat_tests, common_steps)

pub by_difference : (a b d : List (Span VersionValue)) → ((v : VersionValue) → accepts d v true ≡ (accepts a v true && not (accepts b v true)))
    → (answer : Bool) → IsTrue answer ↔ ((v : VersionValue) → accepts d v true ≡ false) → IsTrue answer ↔ IsSubset true a b
by_difference a b d e answer h = grind (arith, nat_tests, common_steps)

-- ranges that are part of each other accept the same
pub of_both : {E : Type 0} (include : Bool) (a b : List (Span VersionValue)) (r : Result Bool E) → IsSubset include a b
    → IfOk r (λ answer. IsTrue answer ↔ IsSubset include b a) → IfOk r (λ answer. IsTrue answer ↔ AcceptSame include a b)
of_both include a b r h k = IfOk-weaker r _ _ (λ answer is. grind (arith, nat_tests, common_steps)) k

pub not_both : (include answer : Bool) (a b : List (Span VersionValue)) → IsTrue answer ↔ IsSubset include a b → answer ≡ false
    → IsTrue false ↔ AcceptSame include a b
not_both include answer a b h e = grind (arith, nat_tests, common_steps)

-- ---- unions

-- what a span holds, one that covers it holds
covers-holds : (s t : Span VersionValue) (v : VersionValue) → covers precedence s t ≡ true → holds precedence t v ≡ true → holds precedence s v ≡ true
covers-holds s t v c h = grind (arith, and_parts, is_past-down, precedence_total, tells, gt_lt, not-true)

-- a bound names alike two versions of the same three numbers
same_names : (b : Bound VersionValue) (w v : VersionValue) → same_triple w v ≡ true → names b w ≡ names b v
same_names b w v h = grind (arith, nat_tests, common_steps)

-- a bound names v: a span that lets in the bound's version lets in v
named_let_in : (s : Span VersionValue) (b : Bound VersionValue) (v : VersionValue) → names b v ≡ true
    → passes (λ w. not (lets_in s w)) b ≡ false → lets_in s v ≡ true
named_let_in s b v n k = grind (arith, nat_tests, common_steps, let_in)
  where
    let_in : (w : VersionValue) → (not (is_release w) && same_triple w v) ≡ true → not (lets_in s w) ≡ false → lets_in s v ≡ true
    let_in w n k = grind (arith, and_parts, or_right, ap₂, same_names, not)

-- what a span accepts, one that says all of it accepts
says_all-accepts : (s t : Span VersionValue) (v : VersionValue) (include : Bool) → says_all s t ≡ true
    → (holds precedence t v && (include || lets_in t v)) ≡ true → (holds precedence s v && (include || lets_in s v)) ≡ true
says_all-accepts s t v include a h =
    grind (arith, nat_tests, common_steps, and_parts, covers-holds, or_parts, not-true, or_cases, or_left, named_let_in)

-- a list that is filtered finds with another what the whole list finds with it
pub filtered : {A : Type 0} (p q : A → Bool) (a : Bool) → ((x : A) → p x ≡ false → q x ≡ true → a ≡ true) → (xs : List A)
    → (a || list_any q (filter p xs)) ≡ (a || list_any q xs)
filtered p q a h [] = refl
filtered p q a h (x ∷ xs) = grind (arith, h x, filtered p q a h xs)

said : (ss : List (Span VersionValue)) (t : Span VersionValue) (v : VersionValue) (include : Bool) → list_any (λ s. says_all s t) ss ≡ true
    → (holds precedence t v && (include || lets_in t v)) ≡ true → accepts ss v include ≡ true
said [] t v include a h = cc
said (s ∷ ss) t v include a h = grind (arith, or_cases, says_all-accepts s t v include, said ss t v include, or_left, or_right)

pub union-accepts : (ss ts : List (Span VersionValue)) (v : VersionValue) (include : Bool)
    → accepts (union ss ts) v include ≡ (accepts ss v include || accepts ts v include)
union-accepts ss ts v include = grind (arith, list_any-append, filtered, not, said, not-true)

-- ---- the loops

-- the same, for an element that stays and for one that goes
pub stays_behind : {A : Type 0} (p : A → Bool) (xs : List A) (i : ℕ) (x : A) (front old new : List A) → i < length xs → x ≡ get_or xs i x → p x ≡ true
    → old ≡ front ++ filter p (take i xs) → new ≡ old ++ x ∷ [] → new ≡ front ++ filter p (take (i + 1) xs)
stays_behind p xs i x front old new h at k e n = grind (arith, nat_tests, common_steps)

pub goes_behind : {A : Type 0} (p : A → Bool) (xs : List A) (i : ℕ) (x : A) (front old : List A) → i < length xs
    → x ≡ get_or xs i x → p x ≡ false → old ≡ front ++ filter p (take i xs) → old ≡ front ++ filter p (take (i + 1) xs)
goes_behind p xs i x front old h at k e = grind (arith, nat_tests, common_steps)

-- what stays of a list, from an element on that stays
filter-parts : {A : Type 0} (p : A → Bool) (xs : List A) (i : ℕ) (x : A) → i < length xs → x ≡ get_or xs i x → p x ≡ true
    → (rest : List A) × (filter p xs ≡ filter p (take i xs) ++ x ∷ rest)
filter-parts p xs i x h at k =
    (filter p (drop (i + 1) xs), grind (arith, nat_tests, common_steps, filter-append p (take (i + 1) xs) (drop (i + 1) xs), take-append-drop (i + 1) xs))

-- an element that stays takes memory by itself, or is not the first: so does the whole list that is made
pub taken_at : {V : Type 0} (takes : V → Bool) (p : Span V → Bool) (xs front now : List (Span V)) (i : ℕ) (x : Span V)
    → i < length xs → x ≡ get_or xs i x → p x ≡ true → now ≡ front ++ filter p (take i xs)
    → (0 < length now) ⊎ (has_bound takes x ≡ true) → AreTaking takes (front ++ filter p xs)
taken_at takes p xs front now i x h at k e m =
    let (rest, parts) = filter-parts p xs i x h at k in
    rw parts (rw (sym (append_assoc front (filter p (take i xs)) (x ∷ rest)), sym e) (grind (arith, nat_tests, common_steps)))

-- ---- whatever holds the versions

pub map-filter : {A B : Type 0} (f : A → B) (p : A → Bool) (q : B → Bool) → ((x : A) → p x ≡ q (f x)) → (xs : List A)
    → map f (filter p xs) ≡ filter q (map f xs)
map-filter f p q h [] = refl
map-filter f p q h (x ∷ xs) = rw (h x) (grind (arith, map-filter f p q h xs))

pub all-filter : {A : Type 0} (p q : A → Bool) (xs : List A) → list_all q xs ≡ true → list_all q (filter p xs) ≡ true
all-filter p q [] h = refl
all-filter p q (x ∷ xs) h = grind (arith, all-filter p q xs)

module _ {V : Type 0} (R : V → V → Ordering) (value : V → VersionValue)
    (ordered : (v w : V) → R v w ≡ precedence (value v) (value w)) where
  pub covers-values : (s t : Span V) → covers R s t ≡ covers precedence (span_of value s) (span_of value t)
  covers-values s t = grind (arith, ordered)

pub union-valid : (limit : ℕ) (ss ts : List (Span VersionValue)) → IsRange limit ss → IsRange limit ts → IsRange limit (union ss ts)
union-valid limit ss ts h k = grind (arith, nat_tests, common_steps, length-append, list_all-append, all-filter)

-- the list of a union that was made so
pub union-made : {V : Type 0} (value : V → VersionValue) (xs ys one both : List (Span V)) (ss ts : List (Span VersionValue)) → spans_of value xs ≡ ss
    → spans_of value ys ≡ ts → one ≡ xs → both ≡ one ++ filter (λ t. not (is_said value xs t)) ys → spans_of value both ≡ union ss ts
union-made value xs ys one both ss ts p q e k = grind (arith, nat_tests, common_steps, not, map-append, map-filter, list_any-map, ap₂)

-- copies that take memory make the union take it
pub more-taking : {V : Type 0} (takes : V → Bool) (xs ys : List (Span V)) → AreTaking takes xs → AreTaking takes (xs ++ ys)
more-taking takes xs ys h = grind (arith, nat_tests, common_steps)

-- ---- the intervals that accept one of some versions

-- the spans that admit one of the versions
abbrev used_of : List VersionValue → List (Span VersionValue) → List (Span VersionValue)
used_of vs ss = filter (λ s. list_any (λ v. admits s v) vs) ss

simplified-is : (vs : List VersionValue) (ss : List (Span VersionValue)) → simplified vs ss ≡ (if is_empty (used_of vs ss) then ss else used_of vs ss)
simplified-is vs ss = simp or-false

used_same : (vs : List VersionValue) (ss : List (Span VersionValue)) → All (λ v. accepts (used_of vs ss) v false ≡ accepts ss v false) vs
used_same vs ss =
    All-weaker (Contains vs) _ (λ v at. filtered _ (λ s. admits s v) false (λ s n k. sym n
    ∙ list_any_at (λ w. admits s w) vs at.0 v at.1 (ap (λ w. admits s w) at.2 ∙ k)) ss) vs (All-contains_itself vs)

-- a list that is not empty
some_list : {A : Type 0} (r list all : List A) → Some r ≡ if_any list → (r ≡ list) × ((if is_empty list then all else list) ≡ r)
some_list r list all e = grind arith

module _ {V W : Type 0} (value : V → VersionValue) (other : W → VersionValue) (ws : List W) (xs used : List (Span V))
    (ss : List (Span VersionValue)) (p : spans_of value xs ≡ ss) (e : used ≡ filter (is_used value other ws) xs) where
  made : spans_of value used ≡ used_of (map other ws) ss
  made = rw (e, ← p) (map-filter (span_of value) _ (λ s. list_any (λ v. admits s v) (map other ws))
      (λ x. sym (list_any-map (λ v. admits (span_of value x) v) other ws)) xs)

  simplified-made : simplified (map other ws) ss ≡ (if is_empty (spans_of value used) then ss else spans_of value used)
  simplified-made = grind (arith, simplified-is, made)

  pub used-valid : (limit : ℕ) → IsRange limit ss → list_all (is_range_span (limit + 1)) (spans_of value used) ≡ true
  used-valid limit h = grind (arith, made, all-filter, h.each)

  pub some-list : (r : List (Span VersionValue)) → Some r ≡ if_any (spans_of value used) → r ≡ simplified (map other ws) ss
  some-list r k = grind (arith, simplified-made, some_list)

  pub some-same : (r : List (Span VersionValue)) → Some r ≡ if_any (spans_of value used)
      → All (λ v. accepts r v false ≡ accepts ss v false) (map other ws)
  some-same r k = grind (arith, some_list r, made, used_same)

  pub some-shorter : (r : List (Span VersionValue)) → Some r ≡ if_any (spans_of value used) → length r ≤ length ss
  some-shorter r k = rw ((some_list r _ ss k).0, made) (omega (arith, length-filter_both _ (λ s. not (list_any (λ v. admits s v) (map other ws))) (λ s. refl) ss))

  pub none-list : None ≡ if_any (spans_of value used) → ss ≡ simplified (map other ws) ss
  none-list k = grind (arith, simplified-made)

  -- what takes memory is not empty
  pub used-taking : (takes : V → Bool) → AreTaking takes used → spans_of value used ≡ simplified (map other ws) ss
  used-taking takes t = sym (simplified-made ∙ go used t)
    where
      go : (all : List (Span V)) → AreTaking takes all → (if is_empty (spans_of value all) then ss else spans_of value all) ≡ spans_of value all
      go [] t = grind arith
      go (x ∷ xs) t = refl

-- a copy answers the same about every version
pub copy-same : (r ss : List (Span VersionValue)) (vs : List VersionValue) → r ≡ ss → All (λ v. accepts r v false ≡ accepts ss v false) vs
copy-same r ss vs e = grind (arith, All-contains_itself, All-weaker)
