-- Statement. What is told of ranges, and of versions, that are made of ranges in the memory of the caller.
use Rattle.std.specs.Prelude.{◌≡◌, ◌⊎◌, Bool, ℕ, List, [], IfSome, Option, Some, None}
use Rattle.semver_core.specs.Cuts.{Span}
use Rattle.semver_core.specs.Values.Versions.{VersionValue}
use Rattle.nodejs_semver.specs.Ranges.Least.{IsLeastOf}
use Rattle.nodejs_semver_c.specs.Answers.{NoMemoryOnlyIf}
use Rattle.nodejs_semver_c.specs.KeptRanges.{PutsFound, RangeKept, TellsRange}
use Rattle.nodejs_semver_c.specs.Subsets.{MayTake, shows_no_subset}
use Rattle.nodejs_semver_c.specs.declared.intervals.IntervalParts.{IntervalParts}
use Rattle.nodejs_semver_c.specs.declared.kept.Parts.{Parts}
use Rattle.nodejs_semver_c.specs.declared.TheConstants.{NOTHING}

-- the range that is found is told, if there is any
abbrev pub TellsFoundRange : Option (List (Span VersionValue))
    → (told_old told_new : List IntervalParts) → (count_old count_new : ℕ)
    → (old new : List ℕ) → (len_old len_new status : ℕ) → Type 0
TellsFoundRange None told_old told_new count_old count_new old new len_old len_new status =
    (status ≡ NOTHING) × RangeKept told_old told_new count_old count_new old new len_old len_new
TellsFoundRange (Some r) told_old told_new count_old count_new old new len_old len_new status =
    TellsRange r told_old told_new count_old count_new old new len_old len_new status

-- the least version that one range accepts and another does not is told, if there is any; or memory is
-- missing where the call may take some
abbrev pub TellsBeyond : Bool → (r s : List (Span VersionValue)) → (told_old told_new : Parts)
    → (old new : List ℕ) → ℕ → Type 0
TellsBeyond include r s told_old told_new old new status =
    ((found : Option VersionValue) × IsLeastOf (shows_no_subset include r s) found
    × IfSome found (λ v. v.build ≡ []) × PutsFound found told_old told_new old new status)
    ⊎ NoMemoryOnlyIf status ((told_new ≡ told_old) × (new ≡ old)) (MayTake include r s)
