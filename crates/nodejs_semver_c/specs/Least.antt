-- Statement. What is answered about the least version that one range accepts and another does not.
use Rattle.std.specs.Prelude.{◌≡◌, ◌⊎◌, ℕ, List, [], IfSome, Option, false, true}
use Rattle.std.specs.List.{Any}
use Rattle.semver_core.specs.Cuts.{Span}
use Rattle.semver_core.specs.Printing.Text.{version_text}
use Rattle.semver_core.specs.Values.Versions.{VersionValue, is_release}
use Rattle.semver_core.specs.declared.cuts.bound.Bound.TheVariants.{After}
use Rattle.nodejs_semver.specs.Ranges.Least.{IsLeastOf, beyond, names_identifiers}
use Rattle.nodejs_semver_c.specs.Answers.{Kept, NoMemoryOnlyIf, PrintsFound}

-- it is printed, if there is any; or memory is missing where the call may take some
abbrev pub PrintsBeyond : (r s : List (Span VersionValue)) (old new : List ℕ)
    → (len_old len_new status : ℕ) → Type 0
PrintsBeyond r s old new len_old len_new status =
    ((found : Option VersionValue) × IsLeastOf (beyond r s) found × IfSome found (λ v. v.build ≡ [])
    × PrintsFound version_text found old new len_old len_new status)
    ⊎ NoMemoryOnlyIf status (Kept old new len_old len_new)
    (((names_identifiers r ≡ true) ⊎ (names_identifiers s ≡ true))
    × (((v : VersionValue) × (beyond r s v ≡ true))
    ⊎ Any (λ i. (v : VersionValue) × (i.lower ≡ After v) × (is_release v ≡ false)) r
    ⊎ Any (λ i. (v : VersionValue) × (i.upper ≡ After v) × (is_release v ≡ false)) s))
