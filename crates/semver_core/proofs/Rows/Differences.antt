-- Rows of the table of `diff`, computed, as one equation.
use Rattle.semver_core.proofs.Common.{AlphaNumeric, Id, Numeric, VersionValue, List, None, Option, Some, [], refl, ℕ, ◌∷◌, ◌≡◌}
use Rattle.semver_core.proofs.Common.{kind_between, VersionDiff, codes, map}
use Rattle.semver_core.specs.declared.difference.VersionDiff.TheVariants.{Major, Minor, Patch, PreMajor, PreRelease}

abbrev version : ℕ → ℕ → ℕ → List Id → List Id → VersionValue
version a b c list build = record { major = a; minor = b; patch = c; pre_release = list; build = build }

-- each pair of versions differs by this kind
abbrev Differ : List (VersionValue × VersionValue × Option VersionDiff) → Type 0
Differ rows = map (λ row. kind_between row.0 row.1) rows ≡ map (λ row. row.2) rows

differ : Differ (
    (version 0 0 2 (Numeric 1 ∷ []) [], version 0 1 0 [] [], Some Minor) ∷
    (version 1 0 0 (Numeric 1 ∷ []) [], version 2 0 0 (Numeric 1 ∷ []) [], Some PreMajor) ∷
    (version 2 0 0 (AlphaNumeric (codes "pre") ∷ []) [], version 1 2 3 [] [], Some PreMajor) ∷
    (version 0 0 2 (Numeric 1 ∷ []) [], version 1 0 0 [] [], Some Major) ∷
    (version 0 0 2 (Numeric 1 ∷ []) [], version 0 0 3 [] [], Some Patch) ∷
    (version 1 0 0 (Numeric 1 ∷ []) [], version 1 0 0 (Numeric 2 ∷ []) [], Some PreRelease) ∷
    (version 1 2 3 [] (AlphaNumeric (codes "a") ∷ []), version 1 2 3 [] (AlphaNumeric (codes "b") ∷ []), None) ∷ []
    )
differ = refl
