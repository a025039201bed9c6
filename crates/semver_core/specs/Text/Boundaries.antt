-- Statement: where a word of a range text may end.
use Rattle.semver_core.specs.Text.Characters.{BeginsBlank, IsBlank}
use Rattle.std.specs.Prelude.{[], List, length, ℕ, ◌++◌, ◌≡◌, ◌≤◌, ◌⊎◌}

-- a boundary is the end or whitespace
abbrev pub IsBoundary : List ℕ → Type 0
IsBoundary text = (text ≡ []) ⊎ BeginsBlank text

-- whitespace or none, and then a text that does not begin with whitespace
abbrev pub SkipsBlank : List ℕ → List ℕ → Type 0
SkipsBlank text rest = (blank : List ℕ) × (text ≡ blank ++ rest) × IsBlank blank × (BeginsBlank rest → ⊥)

-- the rest begins at the first boundary of the text
abbrev pub IsFirstBoundary : List ℕ → List ℕ → Type 0
IsFirstBoundary text rest = (passed : List ℕ) × (text ≡ passed ++ rest) × IsBoundary rest
    × ((x y : List ℕ) → text ≡ x ++ y → IsBoundary y → length passed ≤ length x)
