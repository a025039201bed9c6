-- For proofs: what comes next after a version.
use Rattle.std.proofs.Common.{◌≡◌, ◌⊎◌, inl, inr, refl, ◌∙◌, ap, ℕ, ◌<◌, ◌≤◌, true, List, [], ◌∷◌, ◌++◌, arith}
use Rattle.std.specs.declared.cmp.Ordering.{Ordering}
use Rattle.std.specs.declared.cmp.Ordering.TheVariants.{Less, Equal, Greater}
use Rattle.std.specs.Ordering.{ordering_then, is_le, nat_cmp}
use Rattle.std.specs.Cmp.{tied_itself}
use Rattle.std.specs.Cmp.Lexicographic.{slice_cmp}
use Rattle.std.proofs.lemmas.Bool.Decides.{nat_tests}
use Rattle.semver_core.specs.Text.Identifiers.{Id, Numeric, AlphaNumeric}
use Rattle.semver_core.specs.Values.Order.{id_cmp, pre_cmp, precedence}
use Rattle.semver_core.specs.Internal.OrderLaws.{id_total}
use Rattle.semver_core.specs.Values.Versions.{VersionValue}

-- the order by cases
pub data Below (v w : VersionValue) : Type 0 where
  by_major : v.major < w.major → Below v w
  by_minor : v.major ≡ w.major → v.minor < w.minor → Below v w
  by_patch : v.major ≡ w.major → v.minor ≡ w.minor → v.patch < w.patch → Below v w
  by_pre : v.major ≡ w.major → v.minor ≡ w.minor → v.patch ≡ w.patch → pre_cmp v.pre_release w.pre_release ≡ Less → Below v w

then_less : (r s : Ordering) → ordering_then r s ≡ Less → (r ≡ Less) ⊎ ((r ≡ Equal) × (s ≡ Less))
then_less Less s h = inl refl
then_less Equal s h = inr (refl, h)
then_less Greater s h = cc

nat_less : (m n : ℕ) → nat_cmp m n ≡ Less → m < n
nat_less m n h = grind (arith, nat_tests)

nat_same : (m n : ℕ) → nat_cmp m n ≡ Equal → m ≡ n
nat_same m n h = grind (arith, nat_tests)

less_nat : (m n : ℕ) → m < n → nat_cmp m n ≡ Less
less_nat m n h = grind (arith, nat_tests)

same_nat : (m n : ℕ) → m ≡ n → nat_cmp m n ≡ Equal
same_nat m n h = grind (arith, nat_tests)

number_less : (m n : ℕ) (s : Ordering) → ordering_then (nat_cmp m n) s ≡ Less → (m < n) ⊎ ((m ≡ n) × (s ≡ Less))
number_less m n s h = by (then_less (nat_cmp m n) s h)
  where
    by : (nat_cmp m n ≡ Less) ⊎ ((nat_cmp m n ≡ Equal) × (s ≡ Less)) → (m < n) ⊎ ((m ≡ n) × (s ≡ Less))
    by (inl l) = inl (nat_less m n l)
    by (inr p) = inr (nat_same m n p.0, p.1)

pub below_cases : (v w : VersionValue) → precedence v w ≡ Less → Below v w
below_cases v w h = first (number_less v.major w.major _ h)
  where
    last : v.major ≡ w.major → v.minor ≡ w.minor
        → (v.patch < w.patch) ⊎ ((v.patch ≡ w.patch) × (pre_cmp v.pre_release w.pre_release ≡ Less)) → Below v w
    last a b (inl l) = by_patch a b l
    last a b (inr p) = by_pre a b p.0 p.1

    second : v.major ≡ w.major → (v.minor < w.minor) ⊎ ((v.minor ≡ w.minor) × (ordering_then (nat_cmp v.patch w.patch) (pre_cmp v.pre_release w.pre_release) ≡ Less)) → Below v w
    second a (inl l) = by_minor a l
    second a (inr p) = last a p.0 (number_less v.patch w.patch _ p.1)

    first : (v.major < w.major) ⊎ ((v.major ≡ w.major) × (ordering_then (nat_cmp v.minor w.minor) (ordering_then (nat_cmp v.patch w.patch) (pre_cmp v.pre_release w.pre_release)) ≡ Less)) → Below v w
    first (inl l) = by_major l
    first (inr p) = second p.0 (number_less v.minor w.minor _ p.1)

-- each part alone
pub less_first : (m n : ℕ) (s : Ordering) → m < n → ordering_then (nat_cmp m n) s ≡ Less
less_first m n s h = ap (λ r. ordering_then r s) (less_nat m n h)

pub less_second : (m n : ℕ) (s : Ordering) → m ≡ n → s ≡ Less → ordering_then (nat_cmp m n) s ≡ Less
less_second m n s h k = ap (λ r. ordering_then r s) (same_nat m n h) ∙ k

nat_upto : (m n : ℕ) → m ≤ n → is_le (nat_cmp m n) ≡ true
nat_upto m n h = grind (arith, nat_tests)

then_le : (r s : Ordering) → is_le r ≡ true → is_le s ≡ true → is_le (ordering_then r s) ≡ true
then_le Less s h k = refl
then_le Equal s h k = k
then_le Greater s h k = cc

pub le_weak : (m n : ℕ) (s : Ordering) → m ≤ n → is_le s ≡ true → is_le (ordering_then (nat_cmp m n) s) ≡ true
le_weak m n s h k = then_le (nat_cmp m n) s (nat_upto m n h) k

-- Numeric 0 alone is the least pre-release
pub zero_least : (ys : List Id) → is_le (pre_cmp (Numeric 0 ∷ []) ys) ≡ true
zero_least [] = refl
zero_least (AlphaNumeric b ∷ ys) = refl
zero_least (Numeric n ∷ ys) = then_le (nat_cmp 0 n) (slice_cmp id_cmp [] ys) (nat_upto 0 n arith_zero) (empty_least ys)
  where
    arith_zero : 0 ≤ n
    arith_zero = omega arith

    empty_least : (ys : List Id) → is_le (slice_cmp id_cmp [] ys) ≡ true
    empty_least [] = refl
    empty_least (y ∷ ys) = refl

-- a list with more after it is above it
pub below_more : (xs : List Id) (y : Id) (ys : List Id) → slice_cmp id_cmp xs (xs ++ y ∷ ys) ≡ Less
below_more [] y ys = refl
below_more (x ∷ xs) y ys = ap (λ r. ordering_then r (slice_cmp id_cmp xs (xs ++ y ∷ ys))) (tied_itself id_total x) ∙ below_more xs y ys

-- Numeric 0 after a list gives the least list above it
pub next_least : (xs ys : List Id) → slice_cmp id_cmp xs ys ≡ Less → is_le (slice_cmp id_cmp (xs ++ Numeric 0 ∷ []) ys) ≡ true
next_least [] [] h = cc
next_least [] (y ∷ ys) h = zero_least (y ∷ ys)
next_least (x ∷ xs) [] h = cc
next_least (x ∷ xs) (y ∷ ys) h = by_cmp (id_cmp x y) h (next_least xs ys)
  where
    by_cmp : (r : Ordering) → ordering_then r (slice_cmp id_cmp xs ys) ≡ Less → (slice_cmp id_cmp xs ys ≡ Less → is_le (slice_cmp id_cmp (xs ++ Numeric 0 ∷ []) ys) ≡ true) → is_le (ordering_then r (slice_cmp id_cmp (xs ++ Numeric 0 ∷ []) ys)) ≡ true
    by_cmp Less h f = refl
    by_cmp Equal h f = f h
    by_cmp Greater h f = cc

pub empty_not_below : (ys : List Id) → pre_cmp [] ys ≡ Less → ⊥
empty_not_below [] h = cc
empty_not_below (y ∷ ys) h = cc

-- v is below w by its first part that differs
pub above_major : (v w : VersionValue) → v.major < w.major → precedence v w ≡ Less
above_major v w h = less_first v.major w.major (ordering_then (nat_cmp v.minor w.minor) (ordering_then (nat_cmp v.patch w.patch) (pre_cmp v.pre_release w.pre_release))) h

pub above_minor : (v w : VersionValue) → v.major ≡ w.major → v.minor < w.minor → precedence v w ≡ Less
above_minor v w a h = less_second v.major w.major (ordering_then (nat_cmp v.minor w.minor) (ordering_then (nat_cmp v.patch w.patch) (pre_cmp v.pre_release w.pre_release))) a
    (less_first v.minor w.minor (ordering_then (nat_cmp v.patch w.patch) (pre_cmp v.pre_release w.pre_release)) h)

pub above_patch : (v w : VersionValue) → v.major ≡ w.major → v.minor ≡ w.minor → v.patch < w.patch → precedence v w ≡ Less
above_patch v w a b h = less_second v.major w.major (ordering_then (nat_cmp v.minor w.minor) (ordering_then (nat_cmp v.patch w.patch) (pre_cmp v.pre_release w.pre_release))) a
    (less_second v.minor w.minor (ordering_then (nat_cmp v.patch w.patch) (pre_cmp v.pre_release w.pre_release)) b
    (less_first v.patch w.patch (pre_cmp v.pre_release w.pre_release) h))

pub above_pre : (v w : VersionValue) → v.major ≡ w.major → v.minor ≡ w.minor → v.patch ≡ w.patch → pre_cmp v.pre_release w.pre_release ≡ Less → precedence v w ≡ Less
above_pre v w a b c h = less_second v.major w.major (ordering_then (nat_cmp v.minor w.minor) (ordering_then (nat_cmp v.patch w.patch) (pre_cmp v.pre_release w.pre_release))) a
    (less_second v.minor w.minor (ordering_then (nat_cmp v.patch w.patch) (pre_cmp v.pre_release w.pre_release)) b
    (less_second v.patch w.patch (pre_cmp v.pre_release w.pre_release) c h))

-- v is not above w
pub upto_major : (v w : VersionValue) → v.major < w.major → is_le (precedence v w) ≡ true
upto_major v w h = ap is_le (above_major v w h)

pub upto_minor : (v w : VersionValue) → v.major ≡ w.major → v.minor < w.minor → is_le (precedence v w) ≡ true
upto_minor v w a h = ap is_le (above_minor v w a h)

pub upto_patch : (v w : VersionValue) → v.major ≤ w.major → v.minor ≤ w.minor → v.patch ≤ w.patch → is_le (pre_cmp v.pre_release w.pre_release) ≡ true → is_le (precedence v w) ≡ true
upto_patch v w a b c h = le_weak v.major w.major (ordering_then (nat_cmp v.minor w.minor) (ordering_then (nat_cmp v.patch w.patch) (pre_cmp v.pre_release w.pre_release))) a
    (le_weak v.minor w.minor (ordering_then (nat_cmp v.patch w.patch) (pre_cmp v.pre_release w.pre_release)) b
    (le_weak v.patch w.patch (pre_cmp v.pre_release w.pre_release) c h))
