-- Statement: what is bound to the parameters of a statement.
use Rattle.std.specs.Prelude.{◌≡◌, ◌∷◌, [], false, if◌then◌else◌, List, pos, ℕ}
use Rattle.key_spans.specs.Spans.{in_spans}
use Rattle.key_spans.specs.declared.KeySpan.{KeySpan}
use Rattle.nodejs_semver.specs.Ranges.Gate.{accepts}
use Rattle.npm_reading.specs.Ranges.{IsRangeIn}
use Rattle.semver_core.specs.Cuts.{Span}
use Rattle.semver_core.specs.Keys.{key}
use Rattle.semver_core.specs.Values.Versions.{IsVersion, VersionValue}
use Rattle.semver_core.specs.declared.TheConstants.{MAX_SAFE_INTEGER}
use Rattle.sqlite_value.specs.Order.{Row}
use Rattle.sqlite_value.specs.declared.value.Value.TheVariants.{Blob, Int, Text}
use Rattle.registry_index.specs.Lines.{IsKeyOf, package_in, rest_in, version_in}

-- the spans hold the keys of exactly the versions that the range accepts which npm reads in the text
abbrev pub AreSpansOf : List ℕ → List KeySpan → Type 0
AreSpansOf text spans = (range : List (Span VersionValue)) × IsRangeIn false MAX_SAFE_INTEGER false text range
    × ((v : VersionValue) → IsVersion v → in_spans spans (key v) ≡ accepts range v false)

-- a query binds the package, where the span starts and stops, and whether only releases count
abbrev pub asked : List ℕ → KeySpan → Row
asked name s = Text name ∷ Blob s.start.items ∷ Blob s.stop.items
    ∷ Int (if s.releases_only then pos 1 else pos 0) ∷ []

-- what is stored of a line: its package, the key of its version, its version and the rest
abbrev pub IsRowOf : (line : List ℕ) → Row → Type 0
IsRowOf line row = (bytes : List ℕ) × IsKeyOf (version_in line) bytes
    × (row ≡ Text (package_in line) ∷ Blob bytes ∷ Text (version_in line) ∷ Text (rest_in line) ∷ [])
