-- For proofs. What texts are read as.
use Rattle.std.specs.Prelude.{◌≡◌, ◌∷◌, [], not, ℕ, Bool, true, false, List, Option}
use Rattle.semver_core.specs.Cuts.{Span}
use Rattle.semver_core.specs.Lists.{is_empty}
use Rattle.semver_core.specs.Values.Versions.{VersionValue}
use Rattle.npm_semver.specs.Arguments.{Asked}
use Rattle.npm_semver.specs.Internal.Readings.{AreRead}
use Rattle.npm_semver.specs.Listing.{AreListed, Entry}
use Rattle.npm_semver.specs.Reasons.{AreLeftOut, AreNoRanges, Told}
use Rattle.npm_semver.specs.declared.listing.Texts.{Texts}
use Rattle.npm_semver.specs.declared.reading.ReadOptions.{ReadOptions}
use Rattle.npm_semver.specs.declared.why.Kind.TheVariants.{NoField, NoVersion}

-- the ranges, what is listed and what is left out, and the versions that are found, whatever the
-- ranges say of them
pub record AreTexts (r : ReadOptions) (ranges versions : List (List ℕ))
    (read : List (Option (List (Span VersionValue)))) (no_ranges : List Told)
    (entries : List Entry) (left_out : List Told) (has_version : Bool) : Type 0 where
  pub ranges_are : AreRead r ranges read
  pub no_ranges_are : AreNoRanges r ranges no_ranges
  pub listed : AreListed r ranges versions entries
  pub left : AreLeftOut r ranges versions left_out
  pub found : List Entry
  pub found_are : AreListed r [] versions found
  pub some_are : is_empty found ≡ not has_version
  pub all_are : ranges ≡ [] → entries ≡ found

abbrev pub Reads : ReadOptions → List (List ℕ) → List (List ℕ) → Texts → Type 0
Reads r ranges versions t = AreTexts r ranges versions t.ranges.items t.no_ranges.items
    t.entries.items t.left_out.items t.has_version

abbrev pub IsReadFor : Asked → Texts → Type 0
IsReadFor q = Reads q.reading q.ranges q.versions

abbrev pub is_no_version : Told → Bool
is_no_version told = elim told.kind [ NoVersion ↦ true | NoField ↦ true | _ ↦ false ]

-- the first of these that is no version
pub data IsFirstLacking : List Told → Told → Type 0 where
  this : (t : Told) (ts : List Told) → is_no_version t ≡ true → IsFirstLacking (t ∷ ts) t
  further : (t found : Told) (ts : List Told) → is_no_version t ≡ false → IsFirstLacking ts found
      → IsFirstLacking (t ∷ ts) found
