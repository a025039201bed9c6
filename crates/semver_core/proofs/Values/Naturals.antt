-- An integer is natural or negative.
use Rattle.semver_core.proofs.Common.{None, Option, Some, arith, ℕ, ◌≡◌, ◌⊎◌, ℤ, pos, negsuc}

-- the natural number that an integer is
abbrev pub from_natural : ℤ → Option ℕ
from_natural (pos n) = Some n
from_natural (negsuc n) = None

negative_is : (z : ℤ) → from_natural z ≡ None → (n : ℕ) × (z ≡ negsuc n)
negative_is z h = grind arith

-- of three integers one is negative
pub one_negative : (a b c : ℤ) → (from_natural a ≡ None) ⊎ (from_natural b ≡ None) ⊎ (from_natural c ≡ None)
    → (n : ℕ) × ((a ≡ negsuc n) ⊎ (b ≡ negsuc n) ⊎ (c ≡ negsuc n))
one_negative a b c h = grind (arith, negative_is)
