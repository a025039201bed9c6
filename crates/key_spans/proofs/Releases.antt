-- The stretches of the releases are exact.
use Rattle.std.proofs.Common.{ℕ, ◌≡◌, ◌<◌, ◌≤◌, ◌^◌, ◌+◌, ◌∷◌, ◌&&◌, ◌||◌, List, [], Bool, true, false, not, refl, ap, arith, ◌∙◌, sym, true≢false, subst, inl, inr}
use borrow.Author.Tests.{ltb-false, ltb-true}
use Rattle.key_spans.proofs.Line as line
use Rattle.std.proofs.lemmas.Bool.{cases_lt, not-true, or_left}
use Rattle.std.specs.Cmp.{nat_cmp_total, tied_itself}
use Rattle.std.specs.Prelude.{All, None, Some, nat_lt, if◌then◌else◌}
use Rattle.std.proofs.lemmas.List.Elements.{All-head, All-tail, All-nil}
use Rattle.std.specs.Ordering.{is_le, is_lt, nat_cmp, ordering_then}
use Rattle.std.specs.Cmp.Lexicographic.{slice_cmp}
use Rattle.std.specs.declared.cmp.Ordering.{Ordering}
use Rattle.std.specs.declared.cmp.Ordering.TheVariants.{Less, Equal, Greater}
use Rattle.key_spans.specs.Internal.Places.{IsEnd, IsSpan, end_key, next_place, numbers_place, release_key, release_place, release_stretch, releases}
use Rattle.key_spans.specs.Internal.Sets.{has, holds}
use Rattle.semver_core.proofs.Encoding.Numbers.{bytes_cmp, cmp_above, cmp_below}
use Rattle.semver_core.proofs.Encoding.Order.{key_cmp, low_below, then_equal}
use Rattle.key_spans.proofs.Keys as of_keys
use Rattle.key_spans.proofs.Keys.{le, lt, numbers_cmp, then_le}
use Rattle.semver_core.specs.Cuts as cuts
use Rattle.semver_core.specs.Cuts.{Span, is_past, lower_cut, upper_cut}
use Rattle.nodejs_semver.specs.Ranges.Gate.{accepts}
use Rattle.semver_core.specs.Values.Gate.{lets_in}
use Rattle.semver_core.specs.Keys.{key, pre_key}
use Rattle.semver_core.specs.Lists.{is_empty}
use Rattle.semver_core.specs.Text.Identifiers.{Id}
use Rattle.semver_core.specs.Values.Order.{precedence}
use Rattle.semver_core.specs.Values.Versions.{IsId, IsVersion, VersionValue, is_release, release_value}
use Rattle.semver_core.specs.declared.cuts.bound.Bound.{Bound}
use Rattle.semver_core.specs.declared.cuts.bound.Bound.TheVariants.{Unbounded, Before, After}

pub release_is : (M m p : ℕ) → M < 2 ^ 64 → m < 2 ^ 64 → p < 2 ^ 64 → IsVersion (release_value M m p)
release_is M m p h g f = record { major = h; minor = g; patch = f; pre_release = All-nil IsId; build = All-nil IsId }

-- a version against a release, by the numbers
pub against_release : (w v : VersionValue) → IsVersion w → IsVersion v → is_release v ≡ true
    → precedence w v ≡ ordering_then (numbers_cmp w v) (if is_release w then Equal else Less)
against_release w v h k r =
    sym (key_cmp w v h k)
    ∙ ((λ i. bytes_cmp (of_keys.key_parts w i) (of_keys.key_parts v i))
    ∙ (of_keys.numbers_followed w v (pre_key w.pre_release) (pre_key v.pre_release) h k
    ∙ ap (ordering_then (numbers_cmp w v)) (three v.pre_release r ∙ of_keys.pre_three w.pre_release)))
  where
    three : (pre : List Id) → is_empty pre ≡ true → bytes_cmp (pre_key w.pre_release) (pre_key pre) ≡ bytes_cmp (pre_key w.pre_release) (3 ∷ [])
    three [] e = refl
    three (x ∷ xs) e = absurd (true≢false (sym e))

-- the key of a release against that of another
key_release : (M m p : ℕ) (v : VersionValue) → M < 2 ^ 64 → m < 2 ^ 64 → p < 2 ^ 64 → IsVersion v → is_release v ≡ true
    → bytes_cmp (release_key M m p) (key v) ≡ numbers_cmp (release_value M m p) v
key_release M m p v h g f k r = key_cmp _ v (release_is M m p h g f) k ∙ (against_release _ v (release_is M m p h g f) k r ∙ then_equal _)

before_cases : (o : Ordering) (b : Bool) → is_le o ≡ is_le (ordering_then (ordering_then o (if b then Equal else Less)) Equal)
before_cases Less b = refl
before_cases Equal true = refl
before_cases Equal false = refl
before_cases Greater b = refl

after_cases : (o : Ordering) → is_le o ≡ is_le (ordering_then (ordering_then o Less) Greater)
after_cases Less = refl
after_cases Equal = refl
after_cases Greater = refl

after_release_cases : (o : Ordering) → is_lt o ≡ is_le (ordering_then (ordering_then o Equal) Greater)
after_release_cases Less = refl
after_release_cases Equal = refl
after_release_cases Greater = refl

-- ---- the next release

pub le_cmp : (m n : ℕ) → m ≤ n → is_le (nat_cmp m n) ≡ true
le_cmp m n h = elim (cases_lt m n) [
  | inl u ↦ ap is_le (cmp_below m n u)
  | inr u ↦ (let e : m ≡ n = omega arith in subst (λ k. is_le (nat_cmp m k) ≡ true) e (ap is_le (tied_itself nat_cmp_total m)))
]

not_lt_cmp : (m n : ℕ) → n ≤ m → is_lt (nat_cmp m n) ≡ false
not_lt_cmp m n h = line.not_lt nat_cmp_total m n (le_cmp n m h)

next_le : (m n : ℕ) → is_le (nat_cmp (m + 1) n) ≡ is_lt (nat_cmp m n)
next_le m n = elim (cases_lt m n) [
  | inl u ↦ le_cmp (m + 1) n (omega arith) ∙ sym (ap is_lt (cmp_below m n u))
  | inr u ↦ ap is_le (cmp_above (m + 1) n (omega arith)) ∙ sym (not_lt_cmp m n u)
]

pub then_next : (a b c : Ordering) → is_le b ≡ is_lt c → is_le (ordering_then a b) ≡ is_lt (ordering_then a c)
then_next Less b c h = refl
then_next Equal b c h = h
then_next Greater b c h = refl

pub then_true : (a b : Ordering) → is_le a ≡ true → is_le b ≡ true → is_le (ordering_then a b) ≡ true
then_true Less b h k = refl
then_true Equal b h k = k
then_true Greater b h k = h

then_not : (a b : Ordering) → is_lt b ≡ false → is_lt (ordering_then a b) ≡ is_lt a
then_not Less b h = refl
then_not Equal b h = h
then_not Greater b h = refl

pub end_past : (v : VersionValue) → IsVersion v → le end_key (key v) ≡ false
end_past v h = not-true _ (sym (of_keys.lt_le (key v) end_key) ∙ ap is_lt (low_below (key v) [] (of_keys.key_low v h)))

greatest : (n k : ℕ) → k < 2 ^ 64 → nat_lt (n + 1) (2 ^ 64) ≡ false → is_lt (nat_cmp n k) ≡ false
greatest n k h e = not_lt_cmp n k (let u : 2 ^ 64 ≤ n + 1 = ltb-false (n + 1) (2 ^ 64) e in omega arith)

pub fits : (n : ℕ) → nat_lt (n + 1) (2 ^ 64) ≡ true → n + 1 < 2 ^ 64
fits n e = ltb-true (n + 1) (2 ^ 64) e

-- the keys of three numbers stand in the order of the numbers, as seen from v
abbrev pub IsInOrder : (ℕ → ℕ → ℕ → List ℕ) → VersionValue → Type 0
IsInOrder of v = (M m p : ℕ) → M < 2 ^ 64 → m < 2 ^ 64 → p < 2 ^ 64 → le (of M m p) (key v) ≡ is_le (numbers_cmp (release_value M m p) v)

next_by : (of : ℕ → ℕ → ℕ → List ℕ) (v : VersionValue) → IsInOrder of v → (t u x : Bool) (w : VersionValue) → IsVersion w → IsVersion v
    → nat_lt (w.patch + 1) (2 ^ 64) ≡ t → nat_lt (w.minor + 1) (2 ^ 64) ≡ u → nat_lt (w.major + 1) (2 ^ 64) ≡ x
    → le (numbers_place of (if t then Some (w.major, w.minor, w.patch + 1)
    else (if u then Some (w.major, w.minor + 1, 0)
    else (if x then Some (w.major + 1, 0, 0) else None)))) (key v) ≡ is_lt (numbers_cmp w v)
next_by of v law true u x w h k a b c =
    law w.major w.minor (w.patch + 1) h.major h.minor (fits w.patch a)
    ∙ then_next (nat_cmp w.major v.major) _ _ (then_next (nat_cmp w.minor v.minor) _ _ (next_le w.patch v.patch))
next_by of v law false true x w h k a b c =
    law w.major (w.minor + 1) 0 h.major (fits w.minor b) (omega arith)
    ∙ then_next (nat_cmp w.major v.major) _ _
    (then_le (nat_cmp (w.minor + 1) v.minor) _ (le_cmp 0 v.patch (omega arith))
    ∙ (next_le w.minor v.minor ∙ sym (then_not (nat_cmp w.minor v.minor) _ (greatest w.patch v.patch k.patch a))))
next_by of v law false false true w h k a b c =
    law (w.major + 1) 0 0 (fits w.major c) (omega arith) (omega arith)
    ∙ (then_le (nat_cmp (w.major + 1) v.major) _ (then_true _ _ (le_cmp 0 v.minor (omega arith)) (le_cmp 0 v.patch (omega arith)))
    ∙ (next_le w.major v.major ∙ sym (then_not (nat_cmp w.major v.major) _
    (then_not (nat_cmp w.minor v.minor) _ (greatest w.patch v.patch k.patch a) ∙ greatest w.minor v.minor k.minor b))))
next_by of v law false false false w h k a b c =
    end_past v k ∙ sym (then_not (nat_cmp w.major v.major) _
    (then_not (nat_cmp w.minor v.minor) _ (greatest w.patch v.patch k.patch a) ∙ greatest w.minor v.minor k.minor b)
    ∙ greatest w.major v.major k.major c)

pub next_past : (of : ℕ → ℕ → ℕ → List ℕ) (w v : VersionValue) → IsInOrder of v → IsVersion w → IsVersion v
    → le (next_place of w) (key v) ≡ is_lt (numbers_cmp w v)
next_past of w v law h k = next_by of v law (nat_lt (w.patch + 1) (2 ^ 64)) (nat_lt (w.minor + 1) (2 ^ 64)) (nat_lt (w.major + 1) (2 ^ 64)) w h k
    refl refl refl

in_order : (v : VersionValue) → IsVersion v → is_release v ≡ true → IsInOrder release_key v
in_order v k r = λ M m p h g f. ap is_le (key_release M m p v h g f k r)

-- ---- bounds

after_past : (b : Bool) (w v : VersionValue) → is_release w ≡ b → IsVersion w → IsVersion v → is_release v ≡ true
    → le (if b then next_place release_key w else release_key w.major w.minor w.patch) (key v) ≡ is_le (ordering_then (precedence w v) Greater)
after_past true w v e g h r = next_past release_key w v (in_order v h r) g h ∙ (after_release_cases (numbers_cmp w v)
    ∙ (λ i. is_le (ordering_then (ordering_then (numbers_cmp w v) (if sym e i then Equal else Less)) Greater))
    ∙ ap (λ o. is_le (ordering_then o Greater)) (sym (against_release w v g h r)))
after_past false w v e g h r = ap is_le (key_release w.major w.minor w.patch v g.major g.minor g.patch h r)
    ∙ (after_cases (numbers_cmp w v)
    ∙ ((λ i. is_le (ordering_then (ordering_then (numbers_cmp w v) (if sym e i then Equal else Less)) Greater))
    ∙ ap (λ o. is_le (ordering_then o Greater)) (sym (against_release w v g h r))))

before_past : (w v : VersionValue) → IsVersion w → IsVersion v → is_release v ≡ true
    → le (release_key w.major w.minor w.patch) (key v) ≡ is_le (ordering_then (precedence w v) Equal)
before_past w v g h r = ap is_le (key_release w.major w.minor w.patch v g.major g.minor g.patch h r)
    ∙ (before_cases (numbers_cmp w v) (is_release w) ∙ ap (λ o. is_le (ordering_then o Equal)) (sym (against_release w v g h r)))

pub zero_le : (v : VersionValue) → is_le (numbers_cmp (release_value 0 0 0) v) ≡ true
zero_le v = then_true _ _ (le_cmp 0 v.major (omega arith)) (then_true _ _ (le_cmp 0 v.minor (omega arith)) (le_cmp 0 v.patch (omega arith)))

pub lower_past : (b : Bound VersionValue) (v : VersionValue) → IsEnd b → IsVersion v → is_release v ≡ true
    → le (release_place b (release_key 0 0 0)) (key v) ≡ is_past precedence (lower_cut b) v
lower_past Unbounded v g h r = in_order v h r 0 0 0 (omega arith) (omega arith) (omega arith) ∙ zero_le v
lower_past (Before w) v g h r = before_past w v g h r
lower_past (After w) v g h r = after_past (is_release w) w v refl g h r

pub below_end : (v : VersionValue) → IsVersion v → lt (key v) end_key ≡ true
below_end v h = ap is_lt (low_below (key v) [] (of_keys.key_low v h))

pub upper_past : (b : Bound VersionValue) (v : VersionValue) → IsEnd b → IsVersion v → is_release v ≡ true
    → lt (key v) (release_place b end_key) ≡ not (is_past precedence (upper_cut b) v)
upper_past Unbounded v g h r = below_end v h
upper_past (Before w) v g h r = of_keys.lt_le (key v) (release_key w.major w.minor w.patch) ∙ ap not (before_past w v g h r)
upper_past (After w) v g h r = of_keys.lt_le (key v) _ ∙ ap not (after_past (is_release w) w v refl g h r)

holds_releases : (s : Span VersionValue) (v : VersionValue) → IsSpan s → IsVersion v → is_release v ≡ true
    → holds (slice_cmp nat_cmp) (release_stretch s) (key v) ≡ cuts.holds precedence s v
holds_releases s v h k r = λ i. lower_past s.lower v h.lower k r i && upper_past s.upper v h.upper k r i

and_whole : (x y : Bool) → y ≡ true → x ≡ (x && y)
and_whole true y h = sym h
and_whole false y h = refl

pub releases_exact : (ss : List (Span VersionValue)) (v : VersionValue) → All IsSpan ss → IsVersion v → is_release v ≡ true
    → has (slice_cmp nat_cmp) (releases ss) (key v) ≡ accepts ss v false
releases_exact [] v h k r = refl
releases_exact (s ∷ ss) v h k r =
    let one : holds (slice_cmp nat_cmp) (release_stretch s) (key v) ≡ (cuts.holds precedence s v && lets_in s v) =
    holds_releases s v (All-head IsSpan s ss h) k r
    ∙ and_whole (cuts.holds precedence s v) (lets_in s v)
    (or_left (is_release v) (cuts.has_bound (λ w. not (is_release w) && of_keys.same w v) s) r) in
    λ i. one i || releases_exact ss v (All-tail IsSpan s ss h) k r i
