-- For proofs and private contracts. An alternative with the comparators of one more word.
use Rattle.std.specs.Prelude.{◌≡◌, ◌++◌, Bool, true, false, List, [], ◌∷◌, Option, Some, None, if◌then◌else◌}
use Rattle.std.specs.List.{list_all, list_any}
use Rattle.semver_core.specs.Cuts.{Span}
use Rattle.semver_core.specs.Lists.{is_empty}
use Rattle.semver_core.specs.Values.Versions.{VersionValue}
use Rattle.semver_core.specs.declared.TheConstants.{MAX_SAFE_INTEGER}
use Rattle.semver_core.specs.declared.cuts.bound.Bound.TheVariants.{Before, Unbounded}
use Rattle.npm_words.specs.Internal.Meaning.{IsNarrowed, is_unbounded}
use Rattle.npm_words.specs.Alternatives.{is_valid}
use Rattle.npm_words.specs.Table.{Comparison, lowest}
use Rattle.nodejs_semver.specs.Ranges.View.{any_version}
use Rattle.npm_reading.specs.declared.alternatives.Alternative.{Alternative}

-- what the comparators ds leave of an interval of others; none where one of ds is not valid
abbrev pub NarrowedBy : Bool → Option (Span VersionValue) → List Comparison → Option Alternative → Type 0
NarrowedBy include before ds None = list_all (is_valid MAX_SAFE_INTEGER) ds ≡ false
NarrowedBy include before ds (Some a) = (list_all (is_valid MAX_SAFE_INTEGER) ds ≡ true)
    × ((cs : List Comparison) → IsNarrowed include cs before → IsNarrowed include (cs ++ ds) a.interval)

-- `<0.0.0-0`, below which no version is
abbrev pub nothing : Span VersionValue
nothing = record { lower = Unbounded; upper = Before (lowest (0, 0, 0)) }

-- the spans of a range: one without bounds where some alternative's has none, and one that holds
-- nothing where there is none
abbrev pub ranged : List (Span VersionValue) → List (Span VersionValue)
ranged ss = if list_any is_unbounded ss then any_version else if is_empty ss then nothing ∷ [] else ss
