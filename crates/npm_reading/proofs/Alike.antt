-- Lists of intervals that are alike accept the same versions.
use Rattle.nodejs_semver.proofs.Common.{After, Before, Bool, Bound, Id, IsUtf8, List, MAX_SAFE_INTEGER, Means, Numeric, Ordering, Some, Span, Unbounded}
use Rattle.nodejs_semver.proofs.Common.{VersionValue, accepts, and_parts, ap, denotes, arith, cases_Bool, common_steps, empty_is, false, holds, inl, inr}
use Rattle.nodejs_semver.proofs.Common.{is_interval, is_le, is_lt, is_past, is_release, lets_in, list_all, lower_cut, lowest, names, nat_tests, not}
use Rattle.nodejs_semver.proofs.Common.{ordering_then, passes, pre_cmp, precedence, refl, release_value, same_triple, sym, true, upper_cut, version_eq}
use Rattle.nodejs_semver.proofs.Common.{[], ℕ, ◌&&◌, ◌+◌, ◌==◌, ◌||◌, ◌∙◌, ◌∷◌, ◌≡◌}
use Rattle.nodejs_semver.proofs.{Algebra.Clauses.all_intervals, Bounds.Table.denotes-bounded, Dividing.{MeaningLaw.meant_so, RunsDivide.filtered-each}}
use Rattle.npm_reading.proofs.Grammar.Intervals.{intervals_accept}
use Rattle.npm_reading.specs.{Alike.{AreAlike, following, is_alike, is_alike_lower, is_alike_upper, is_same, under_lowest}, Ranges.intervals_in}
use Rattle.npm_words.{proofs.Common.{Comparison, HasAlternativesIn, cond_some}, specs.{Alternatives.interval_in, Internal.Meaning.common_in}}
use Rattle.semver_core.proofs.Gate.{in_two_steps, lt_is, past-after, past-before, same_triple_is, triple_cmp, triple_total}
use Rattle.semver_core.specs.{Internal.{OrderLaws.{pre_total, same_key}, Successors.zero_least}, Printing.RoundTrip.is_within}
use Rattle.std.specs.Cmp.{Equal-is}
use Rattle.npm_words.specs.Alternatives as Npm

abbrev zero : VersionValue
zero = release_value 0 0 0

abbrev Key : VersionValue → VersionValue → Type 0
Key x y = (x.major ≡ y.major) × (x.minor ≡ y.minor) × (x.patch ≡ y.patch) × (x.pre_release ≡ y.pre_release)

key : (x y : VersionValue) → version_eq x y ≡ true → Key x y
key x y e = same_key x y ((Equal-is (precedence x y)).0 e)

least : (l : List Id) → is_lt (pre_cmp l (Numeric 0 ∷ [])) ≡ false
least l = lt_is pre_total l (Numeric 0 ∷ []) ∙ ap not (zero_least l)

upto_bits : (t : Ordering) (l : List Id) → is_le (ordering_then t (pre_cmp l [])) ≡ is_le t
upto_bits t [] = grind arith
upto_bits t (i ∷ l) = grind arith

under_bits : (t s : Ordering) → is_lt s ≡ false → is_lt (ordering_then t s) ≡ is_lt t
under_bits t s h = grind arith

open_bits : (r n u k z : Bool) → n ≡ false → (k ≡ true → z ≡ false) → (r || (n || (u && k))) ≡ true → (r || not z) ≡ true
open_bits r n u k z e f h = grind arith

alike_bits : (r a b u w n m k l : Bool) → n ≡ m → ((r || (n || (u && k))) ≡ true → a ≡ b) → (u && k) ≡ (w && l)
    → ((r || (b && m)) ≡ true → u ≡ w) → ((a && u) && (r || (n || k))) ≡ ((b && w) && (r || (m || l)))
alike_bits r a b u w n m k l e f g h = grind arith

module _ (v : VersionValue) where
  abbrev from_lower : Bound VersionValue → Bool
  from_lower b = is_past precedence (lower_cut b) v

  abbrev to_upper : Bound VersionValue → Bool
  to_upper b = not (is_past precedence (upper_cut b) v)

  same : (b c : Bound VersionValue) → is_same b c ≡ true
      → (from_lower b ≡ from_lower c) × (to_upper b ≡ to_upper c) × (names b v ≡ names c v)
  same Unbounded Unbounded h = (refl, refl, refl)
  same (Before x) (Before y) h = let (i, j, k, l) = key x y h in (cc (i, j, k, l), cc (i, j, k, l), cc (i, j, k, l))
  same (After x) (After y) h = let (i, j, k, l) = key x y h in (cc (i, j, k, l), cc (i, j, k, l), cc (i, j, k, l))
  same b c h = cc h

  -- ---- lower bounds

  -- 0.0.0 is below each release, and below the versions of other numbers
  zero-under : (is_release v || not (same_triple zero v)) ≡ true → from_lower (Before zero) ≡ true
  zero-under h = grind (arith, nat_tests, common_steps, in_two_steps)

  -- what an upper bound names that lies above 0.0.0 is of other numbers
  named-above : (x : VersionValue) (u : Bound VersionValue) → Key x zero → is_interval precedence (record { lower = Before x; upper = u }) ≡ true
      → names u v ≡ true → same_triple zero v ≡ false
  named-above x (Before w) (i, j, k, l) m n = grind (arith, nat_tests, common_steps)
  named-above x (After w) (i, j, k, l) m n = grind (arith, nat_tests, common_steps)
  named-above x u k m n = cc n

  lower-open : (b c u : Bound VersionValue) → is_interval precedence (record { lower = b; upper = u }) ≡ true
      → (is_same b (Before zero) && is_same Unbounded c) ≡ true
      → (names b v ≡ names c v) × ((is_release v || (names b v || (to_upper u && names u v))) ≡ true → from_lower b ≡ from_lower c)
  lower-open (Before x) Unbounded u i h =
      let e = (and_parts (version_eq x zero) true h).0 in
      let s = same (Before x) (Before zero) e in
      let above = named-above x u (key x zero e) i in
      (s.2, λ m. s.0 ∙ zero-under (open_bits (is_release v) _ (to_upper u) (names u v) _ s.2 above m))
  lower-open Unbounded c u i h = cc h
  lower-open (After x) c u i h = cc h
  lower-open (Before x) c u i h = cc (and_parts (version_eq x zero) _ h).1

  -- ---- upper bounds

  -- a version that the least of its numbers names is not below that
  lowest-named : (y : VersionValue) → y.pre_release ≡ Numeric 0 ∷ [] → (to_upper (Before y) && names (Before y) v) ≡ false
  lowest-named y e = grind (arith, nat_tests, past-before, least v.pre_release)

  upper-before : (w : VersionValue) → to_upper (Before w) ≡ is_lt (precedence v w)
  upper-before w = ap not (past-before w v) ∙ (grind arith)

  upper-after : (w : VersionValue) → to_upper (After w) ≡ is_le (precedence v w)
  upper-after w = ap not (past-after w v) ∙ (grind arith)

  -- a version up to a release is below what follows it
  upto-under : (x y : VersionValue) → x.pre_release ≡ [] → y.pre_release ≡ Numeric 0 ∷ [] → is_le (triple_cmp v x) ≡ is_lt (triple_cmp v y)
      → to_upper (After x) ≡ to_upper (Before y)
  upto-under x y e f h =
      let a : is_le (precedence v x) ≡ is_le (triple_cmp v x) = rw (in_two_steps v x, e) (upto_bits (triple_cmp v x) v.pre_release) in
      let b : is_lt (precedence v y) ≡ is_lt (triple_cmp v y) = rw (in_two_steps v y, f) (under_bits (triple_cmp v y) _ (least v.pre_release)) in
      upper-after x ∙ a ∙ h ∙ sym b ∙ sym (upper-before y)

  triple-following : (x : VersionValue) → is_within MAX_SAFE_INTEGER v ≡ true → is_le (triple_cmp v x) ≡ is_lt (triple_cmp v (following x))
  triple-following x w = elim (cases_Bool (x.patch == MAX_SAFE_INTEGER)) [
    | inr e ↦ rw e (grind (arith, nat_tests, common_steps))
    | inl e ↦ rw e (elim (cases_Bool (x.minor == MAX_SAFE_INTEGER)) [
      | inr f ↦ rw f (grind (arith, nat_tests, common_steps, and_parts))
      | inl f ↦ rw f (grind (arith, nat_tests, common_steps, and_parts))
    ])
  ]

  -- a release, or a version of other numbers, is below a release exactly if it is below its least pre-release
  below-lt : (M m p : ℕ) → (is_release v || not (same_triple (release_value M m p) v)) ≡ true
      → is_lt (precedence v (release_value M m p)) ≡ is_lt (precedence v (lowest M m p))
  below-lt M m p h = grind (arith, nat_tests, common_steps, cases_Bool, in_two_steps, triple_total, same_triple_is)

  -- no interval has a pre-release and the least one of its numbers as its ends
  ends-apart : (c : Bound VersionValue) (y : VersionValue) → y.pre_release ≡ Numeric 0 ∷ []
      → is_interval precedence (record { lower = c; upper = Before y }) ≡ true → names c v ≡ true → same_triple y v ≡ false
  ends-apart c y e i n = grind (arith, nat_tests, common_steps, least)

  upper-under : (b c d : Bound VersionValue) → is_within MAX_SAFE_INTEGER v ≡ true
      → is_interval precedence (record { lower = c; upper = d }) ≡ true → (passes is_release b && is_same (under_lowest b) d) ≡ true
      → ((to_upper b && names b v) ≡ (to_upper d && names d v))
      × ((is_release v || (from_lower c && names c v)) ≡ true → to_upper b ≡ to_upper d)
  upper-under (Before x) c (Before y) w i h =
      let n = lowest x.major x.minor x.patch in
      let (release, e) = and_parts (is_release x) _ h in
      let s = same (Before n) (Before y) e in
      let (a, b, d, l) = key n y e in
      let none = lowest-named n refl in
      let apart : names c v ≡ true → same_triple x v ≡ false = λ m. cc (ends-apart c y (sym l) i m, a, b, d) in
      let below : (is_release v || not (same_triple x v)) ≡ true → to_upper (Before x) ≡ to_upper (Before n) =
      λ m. upper-before x ∙ rw (empty_is x.pre_release release) (below-lt x.major x.minor x.patch m) ∙ sym (upper-before n) in
      (grind (arith, none, s, release), λ m. below (grind (arith, nat_tests, m, apart)) ∙ s.1)
  upper-under (After x) c d w i h =
      let n = following x in
      let (release, e) = and_parts (is_release x) _ h in
      let s = same (Before n) d e in
      let lowest_is : n.pre_release ≡ Numeric 0 ∷ [] = grind arith in
      let none = lowest-named n lowest_is in
      (grind (arith, none, s, release), λ m. upto-under x n (empty_is x.pre_release release) lowest_is (triple-following x w) ∙ s.1)
  upper-under b c d w i h = grind arith

  -- ---- intervals

  spans : (s t : Span VersionValue) → is_within MAX_SAFE_INTEGER v ≡ true → is_interval precedence s ≡ true → is_interval precedence t ≡ true
      → is_alike s t ≡ true → (holds precedence s v && lets_in s v) ≡ (holds precedence t v && lets_in t v)
  spans s t w i j h =
      let (low, up) = and_parts (is_alike_lower s.lower t.lower) (is_alike_upper s.upper t.upper) h in
      let l : (names s.lower v ≡ names t.lower v) × ((is_release v || (names s.lower v || (to_upper s.upper && names s.upper v))) ≡ true
      → from_lower s.lower ≡ from_lower t.lower) = elim (cases_Bool (is_same s.lower t.lower)) [
        | inl e ↦ let k = same s.lower t.lower e in (k.2, λ _. k.0)
        | inr e ↦ lower-open s.lower t.lower s.upper i (rw e at low)
      ] in
      let u : ((to_upper s.upper && names s.upper v) ≡ (to_upper t.upper && names t.upper v))
      × ((is_release v || (from_lower t.lower && names t.lower v)) ≡ true → to_upper s.upper ≡ to_upper t.upper) = elim (cases_Bool (is_same s.upper t.upper)) [
        | inl e ↦ let k = same s.upper t.upper e in (cc (k.1, k.2), λ _. k.1)
        | inr e ↦ upper-under s.upper t.lower t.upper w j (rw e at up)
      ] in
      alike_bits (is_release v) (from_lower s.lower) (from_lower t.lower) (to_upper s.upper) (to_upper t.upper) (names s.lower v) (names t.lower v)
      (names s.upper v) (names t.upper v) l.0 l.1 u.0 u.1

  lists : (ss ts : List (Span VersionValue)) → is_within MAX_SAFE_INTEGER v ≡ true → list_all (is_interval precedence) ss ≡ true
      → list_all (is_interval precedence) ts ≡ true → AreAlike ss ts → accepts ss v false ≡ accepts ts v false
  lists [] [] w i j h = refl
  lists (s ∷ ss) (t ∷ ts) w i j (h, more) = grind (arith, nat_tests, and_parts, spans s t w, lists ss ts w, h, more)
  lists ss ts w i j h = absurd h

-- ---- texts

intervals-are : (all : List (List Comparison)) → list_all (is_interval precedence) (intervals_in false all) ≡ true
intervals-are all =
    let is : (cs : List Comparison) (s : Span VersionValue) → interval_in false cs ≡ Some s → is_interval precedence s ≡ true =
    λ cs s e. let c = cond_some (is_interval precedence (common_in false cs)) (common_in false cs) s e in rw (← c.1) c.0 in
    grind (arith, common_steps, filtered-each (is_interval precedence) (interval_in false) is all)

pub same-accepted : (text : List ℕ) (list : List (Span VersionValue)) (all : List (List Comparison)) (v : VersionValue) → IsUtf8 text
    → Means MAX_SAFE_INTEGER text list → HasAlternativesIn false MAX_SAFE_INTEGER false text all → AreAlike list (intervals_in false all)
    → is_within MAX_SAFE_INTEGER v ≡ true → accepts list v false ≡ Npm.accepts false all v
same-accepted text list all v u m h alike w =
    let each = meant_so (λ l. list_all (is_interval precedence) l ≡ true) MAX_SAFE_INTEGER text u
    (all_intervals (MAX_SAFE_INTEGER + 1) (denotes MAX_SAFE_INTEGER text) (denotes-bounded MAX_SAFE_INTEGER text)) list m in
    lists v list (intervals_in false all) w each (intervals-are all) alike ∙ intervals_accept false all v
