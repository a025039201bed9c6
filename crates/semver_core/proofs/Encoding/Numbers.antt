-- Comparing the bytes of numbers is comparing the numbers.
use Rattle.semver_core.proofs.Common.{ℕ, ◌≡◌, ◌<◌, ◌≤◌, ◌^◌, ◌*◌, ◌+◌, ◌/◌, ◌%◌, ◌++◌, ◌∷◌, List, [], refl, ap}
use Rattle.semver_core.proofs.Common.{arith, zero, suc, ◌∙◌, sym, slice_cmp, ordering_then, Ordering, Less, Equal}
use Rattle.semver_core.proofs.Common.{Greater, nat_tests}
use Rattle.std.specs.Cmp.{nat_cmp_is, ranks}
use Rattle.std.specs.Int.{byte_at, bytes_high_first}
use Rattle.std.specs.Ordering.{MatchOrdering, nat_cmp}
use Rattle.std.proofs.lemmas.Nat.{mod-mul-add}
use Rattle.std.proofs.Math.Nat.{div-add-mod, mod-eq_of_lt, mod-lt, mul-le-mul_left, one-le-pow, pow-suc}
use Rattle.semver_core.specs.Keys.{number_key}
use Rattle.semver_core.specs.Internal.KeyReading.{IsLow, low}

-- the order of two lists of bytes
abbrev pub bytes_cmp : List ℕ → List ℕ → Ordering
bytes_cmp = slice_cmp nat_cmp

pub then_assoc : (a b c : Ordering) → ordering_then (ordering_then a b) c ≡ ordering_then a (ordering_then b c)
then_assoc a b c = grind arith

pub cmp_below : (m n : ℕ) → m < n → nat_cmp m n ≡ Less
cmp_below m n h = sym (nat_cmp_is m n Less h)

pub cmp_above : (m n : ℕ) → n < m → nat_cmp m n ≡ Greater
cmp_above m n h = sym (nat_cmp_is m n Greater h)

pub is_below : (m n : ℕ) (u : Ordering) → m < n → ordering_then (nat_cmp m n) u ≡ Less
is_below m n u h = rw (cmp_below m n h) refl

pub is_above : (m n : ℕ) (u : Ordering) → n < m → ordering_then (nat_cmp m n) u ≡ Greater
is_above m n u h = rw (cmp_above m n h) refl

-- a digit more
digit_cmp : (d a b c e : ℕ) → b < d → e < d → nat_cmp (a * d + b) (c * d + e) ≡ ordering_then (nat_cmp a c) (nat_cmp b e)
digit_cmp d a b c e h k = sym (nat_cmp_is _ _ _ (by (nat_cmp a c) (nat_cmp b e) (ranks a c) (ranks b e)))
  where
    by : (r s : Ordering) → MatchOrdering r (a < c) (a ≡ c) (c < a) → MatchOrdering s (b < e) (b ≡ e) (e < b)
        → MatchOrdering (ordering_then r s) (a * d + b < c * d + e) (a * d + b ≡ c * d + e) (c * d + e < a * d + b)
    by Less s p q = omega (arith, mul-le-mul_left d p)
    by Greater s p q = omega (arith, mul-le-mul_left d p)
    by Equal Less p q = omega (arith, ap (λ n. n * d) p)
    by Equal s p q = omega (arith, ap (λ n. n * d) p)

-- what is left of a number below the place after the next, by the digit at this place
top_digit : (n d : ℕ) → 0 < d → n % (d * 256) ≡ n / d % 256 * d + n % d
top_digit n d h =
    let low : n % d < d = mod-lt n h in
    let digit : n / d % 256 < 256 = omega arith in
    let whole : n ≡ n / d / 256 * (d * 256) + (n / d % 256 * d + n % d) =
    omega (arith, div-add-mod n d, ap (λ x. d * x) (div-add-mod (n / d) 256)) in
    let room : n / d % 256 + 1 ≤ 256 = omega arith in
    let fits : n / d % 256 * d + n % d < d * 256 = omega (arith, mul-le-mul_left d room) in
    ap (λ m. m % (d * 256)) whole ∙ mod-mul-add (n / d / 256) (d * 256) (n / d % 256 * d + n % d) fits

power_above : (k : ℕ) → 0 < 256 ^ k
power_above k = one-le-pow k 256 (omega arith)

top_byte : (k n : ℕ) → n % 256 ^ suc (suc k) ≡ byte_at (suc k) n * 256 ^ suc k + n % 256 ^ suc k
top_byte k n = ap (λ d. n % d) (pow-suc 256 (suc k)) ∙ top_digit n (256 ^ suc k) (power_above (suc k))

-- the lowest bytes of two numbers, the highest first, and what stands behind them
pub low_bytes_cmp : (k m n : ℕ) (r s : List ℕ) → bytes_cmp (bytes_high_first (suc k) m ++ r) (bytes_high_first (suc k) n ++ s)
    ≡ ordering_then (nat_cmp (m % 256 ^ suc k) (n % 256 ^ suc k)) (bytes_cmp r s)
low_bytes_cmp zero m n r s = refl
low_bytes_cmp (suc k) m n r s =
    let d : ℕ = 256 ^ suc k in
    let above : 0 < d = power_above (suc k) in
    let both : nat_cmp (m % 256 ^ suc (suc k)) (n % 256 ^ suc (suc k))
    ≡ ordering_then (nat_cmp (byte_at (suc k) m) (byte_at (suc k) n)) (nat_cmp (m % d) (n % d)) =
    (λ i. nat_cmp (top_byte k m i) (top_byte k n i)) ∙ digit_cmp d _ _ _ _ (mod-lt m above) (mod-lt n above) in
    ap (ordering_then (nat_cmp (byte_at (suc k) m) (byte_at (suc k) n))) (low_bytes_cmp k m n r s)
    ∙ (sym (then_assoc (nat_cmp (byte_at (suc k) m) (byte_at (suc k) n)) (nat_cmp (m % d) (n % d)) (bytes_cmp r s))
    ∙ ap (λ o. ordering_then o (bytes_cmp r s)) (sym both))

-- the bytes of two numbers that fit, and what stands behind them
pub all_bytes_cmp : (k m n : ℕ) (r s : List ℕ) → m < 256 ^ suc k → n < 256 ^ suc k
    → bytes_cmp (bytes_high_first (suc k) m ++ r) (bytes_high_first (suc k) n ++ s) ≡ ordering_then (nat_cmp m n) (bytes_cmp r s)
all_bytes_cmp k m n r s h l =
    low_bytes_cmp k m n r s ∙ (λ i. ordering_then (nat_cmp (mod-eq_of_lt h i) (mod-eq_of_lt l i)) (bytes_cmp r s))

-- the four forms of the key of a number
pub data Form (n : ℕ) : List ℕ → Type 0 where
  one : n < 251 → Form n (n ∷ [])
  two : 251 ≤ n → n < 2 ^ 16 → Form n (251 ∷ bytes_high_first 2 n)
  four : 2 ^ 16 ≤ n → n < 2 ^ 32 → Form n (252 ∷ bytes_high_first 4 n)
  eight : 2 ^ 32 ≤ n → n < 2 ^ 64 → Form n (253 ∷ bytes_high_first 8 n)

pub form : (n : ℕ) → n < 2 ^ 64 → Form n (number_key n)
form n h = grind (arith, nat_tests, one, two, four, eight)

cmp_by : (m n : ℕ) (k l r s : List ℕ) → Form m k → Form n l → bytes_cmp (k ++ r) (l ++ s) ≡ ordering_then (nat_cmp m n) (bytes_cmp r s)
cmp_by m n _ _ r s (one h) (one k) = refl
cmp_by m n _ _ r s (two g h) (two k l) = all_bytes_cmp 1 m n r s h l
cmp_by m n _ _ r s (four g h) (four k l) = all_bytes_cmp 3 m n r s h l
cmp_by m n _ _ r s (eight g h) (eight k l) = all_bytes_cmp 7 m n r s h l
cmp_by m n _ _ r s (one h) (two k l) = is_below m 251 _ h ∙ sym (is_below m n _ (omega arith))
cmp_by m n _ _ r s (one h) (four k l) = is_below m 252 _ (omega arith) ∙ sym (is_below m n _ (omega arith))
cmp_by m n _ _ r s (one h) (eight k l) = is_below m 253 _ (omega arith) ∙ sym (is_below m n _ (omega arith))
cmp_by m n _ _ r s (two g h) (one k) = is_above 251 n _ k ∙ sym (is_above m n _ (omega arith))
cmp_by m n _ _ r s (four g h) (one k) = is_above 252 n _ (omega arith) ∙ sym (is_above m n _ (omega arith))
cmp_by m n _ _ r s (eight g h) (one k) = is_above 253 n _ (omega arith) ∙ sym (is_above m n _ (omega arith))
cmp_by m n _ _ r s (two g h) (four k l) = sym (is_below m n _ (omega arith))
cmp_by m n _ _ r s (two g h) (eight k l) = sym (is_below m n _ (omega arith))
cmp_by m n _ _ r s (four g h) (eight k l) = sym (is_below m n _ (omega arith))
cmp_by m n _ _ r s (four g h) (two k l) = sym (is_above m n _ (omega arith))
cmp_by m n _ _ r s (eight g h) (two k l) = sym (is_above m n _ (omega arith))
cmp_by m n _ _ r s (eight g h) (four k l) = sym (is_above m n _ (omega arith))

-- the keys of two numbers, and what stands behind them
pub number_cmp : (m n : ℕ) (r s : List ℕ) → m < 2 ^ 64 → n < 2 ^ 64
    → bytes_cmp (number_key m ++ r) (number_key n ++ s) ≡ ordering_then (nat_cmp m n) (bytes_cmp r s)
number_cmp m n r s h k = cmp_by m n _ _ r s (form m h) (form n k)

pub number_low : (n : ℕ) (r : List ℕ) → n < 2 ^ 64 → IsLow (number_key n ++ r)
number_low n r h = let f = form n h in grind (arith, low)
