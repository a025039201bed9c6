-- Statement: versions from three signed numbers.
use Rattle.std.specs.Prelude.{◌≡◌, ◌⊎◌, ℕ, ℤ, pos, negsuc, Result, Ok, Err}
use Rattle.semver_core.specs.Values.Versions.{VersionValue, release_value}
use Rattle.semver_core.specs.declared.error.NegativeNumber.{NegativeNumber}

-- the release of these numbers, and an error exactly if one of them is negative
abbrev pub GivesRelease : ℤ → ℤ → ℤ → Result VersionValue NegativeNumber → Type 0
GivesRelease a b c (Ok v) = (a ≡ pos v.major) × (b ≡ pos v.minor) × (c ≡ pos v.patch)
    × (v ≡ release_value v.major v.minor v.patch)
GivesRelease a b c (Err e) = (n : ℕ) × ((a ≡ negsuc n) ⊎ (b ≡ negsuc n) ⊎ (c ≡ negsuc n))
