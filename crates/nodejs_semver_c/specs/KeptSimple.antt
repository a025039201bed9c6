-- Statement. A kept range that is made simple for kept versions.
use Rattle.std.specs.Prelude.{◌≡◌, ◌<◌, ◌≤◌, ◌⊎◌, All, ℕ, List, false, length}
use Rattle.std.specs.List.{AllZip}
use Rattle.semver_core.specs.Cuts.{Span}
use Rattle.semver_core.specs.Values.Versions.{VersionValue}
use Rattle.nodejs_semver.specs.Ranges.Gate.{accepts}
use Rattle.nodejs_semver.specs.Ranges.Simple.{simplified}
use Rattle.nodejs_semver.specs.Ranges.View.{TakesMemory}
use Rattle.nodejs_semver_c.specs.Answers.{NoMemoryOnlyIf}
use Rattle.nodejs_semver_c.specs.Kept.{IsKept, RefusesKept}
use Rattle.nodejs_semver_c.specs.KeptRanges.{RangeKept, TellsRange}
use Rattle.nodejs_semver_c.specs.Lists.{FirstRefused}
use Rattle.nodejs_semver_c.specs.declared.intervals.IntervalParts.{IntervalParts}
use Rattle.nodejs_semver_c.specs.declared.kept.Version.{Version}

-- the first version that is rejected stands at this place, with this status; or all are kept and memory is
-- missing for the array of them, which is not empty
abbrev pub RefusesVersions : List Version → (old new status : ℕ) → Type 0
RefusesVersions kept old new status = FirstRefused IsKept RefusesKept kept new status
    ⊎ NoMemoryOnlyIf status (new ≡ old)
    ((0 < length kept) × ((vs : List VersionValue) × AllZip IsKept kept vs))

-- a range answers about each of these versions as another one does, and has as many intervals or fewer: those
-- that accept one of the versions, or all where none does
abbrev pub IsSimple : List VersionValue → (r s : List (Span VersionValue)) → Type 0
IsSimple vs r s = All (λ v. accepts s v false ≡ accepts r v false) vs × (length s ≤ length r)
    × (s ≡ simplified vs r)

-- such a range is told, or memory is missing where making it may take some
abbrev pub TellsSimple : List VersionValue → List (Span VersionValue)
    → (told_old told_new : List IntervalParts) → (count_old count_new : ℕ)
    → (old new : List ℕ) → (len_old len_new status : ℕ) → Type 0
TellsSimple vs r told_old told_new count_old count_new old new len_old len_new status =
    ((s : List (Span VersionValue)) × IsSimple vs r s
    × TellsRange s told_old told_new count_old count_new old new len_old len_new status)
    ⊎ NoMemoryOnlyIf status (RangeKept told_old told_new count_old count_new old new len_old len_new)
    (TakesMemory (simplified vs r))
