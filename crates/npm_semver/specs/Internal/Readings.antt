-- For proofs. The ranges that range texts are.
use Rattle.std.specs.Prelude.{◌∷◌, [], ℕ, Bool, false, List, Option, Some, None}
use Rattle.semver_core.specs.Cuts.{Span}
use Rattle.semver_core.specs.Failures.{NoValue}
use Rattle.semver_core.specs.Values.Versions.{VersionValue}
use Rattle.semver_core.specs.declared.TheConstants.{MAX_SAFE_INTEGER}
use Rattle.npm_reading.specs.Ranges.{IsRangeIn}
use Rattle.nodejs_semver.specs.Ranges.Gate.{accepts}
use Rattle.npm_semver.specs.Readings.{HasRange}
use Rattle.npm_semver.specs.declared.reading.ReadOptions.{ReadOptions}

abbrev pub IsRead : ReadOptions → List ℕ → Option (List (Span VersionValue)) → Type 0
IsRead r text (Some range) = IsRangeIn r.is_loose MAX_SAFE_INTEGER r.include_prerelease text range
IsRead r text None = NoValue (HasRange r text)

pub data AreRead (r : ReadOptions) : List (List ℕ) → List (Option (List (Span VersionValue))) → Type 0 where
  none : AreRead r [] []
  more : (text : List ℕ) (texts : List (List ℕ)) (range : Option (List (Span VersionValue)))
      (ranges : List (Option (List (Span VersionValue))))
      → IsRead r text range → AreRead r texts ranges → AreRead r (text ∷ texts) (range ∷ ranges)

abbrev pub says : Bool → VersionValue → Option (List (Span VersionValue)) → Bool
says include v (Some range) = accepts range v include
says include v None = false
