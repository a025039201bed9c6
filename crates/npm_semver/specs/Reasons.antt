-- Statement: what `--why` tells of.
use Rattle.std.specs.Prelude.{◌∷◌, [], ℕ, true, false, List, Option, Some, None, unwrap_or}
use Rattle.semver_core.specs.Failures.{NoValue}
use Rattle.semver_core.specs.Values.Versions.{VersionValue}
use Rattle.npm_words.specs.Table.{Comparison}
use Rattle.npm_semver.specs.Listing.{AllSay}
use Rattle.npm_semver.specs.Readings.{HasRange, IsVersionIn, part_by}
use Rattle.npm_semver.specs.declared.reading.ReadOptions.{ReadOptions}
use Rattle.npm_semver.specs.declared.why.Kind.{Kind}
use Rattle.npm_semver.specs.declared.why.Kind.TheVariants.{NoField, NoRange, NoVersion, NotAccepted}

-- a text that is told of, and what it is
pub record Told : Type 0 where
  pub text : List ℕ
  pub kind : Kind

-- of a text that is no version the part that is read is told, or the text, if it has no such field
abbrev pub lacking : Option (List ℕ) → List ℕ → Told
lacking None text = record { text = text; kind = NoField }
lacking (Some part) text = record { text = part; kind = NoVersion }

abbrev pub lacking_in : ReadOptions → List ℕ → Told
lacking_in r text = lacking (part_by r.field text) text

-- those of these range texts that are no ranges, in their order
pub data AreNoRanges (r : ReadOptions) : List (List ℕ) → List Told → Type 0 where
  none : AreNoRanges r [] []
  range : (text : List ℕ) (texts : List (List ℕ)) (alternatives : List (List Comparison))
      (told : List Told) → HasRange r text alternatives → AreNoRanges r texts told
      → AreNoRanges r (text ∷ texts) told
  no_range : (text : List ℕ) (texts : List (List ℕ)) (told : List Told) → NoValue (HasRange r text)
      → AreNoRanges r texts told
      → AreNoRanges r (text ∷ texts) (record { text = text; kind = NoRange } ∷ told)

-- those of these texts that are left out, in their order: no versions, and versions that not all
-- range texts accept
pub data AreLeftOut (r : ReadOptions) (ranges : List (List ℕ)) : List (List ℕ) → List Told → Type 0 where
  none : AreLeftOut r ranges [] []
  accepted : (text : List ℕ) (texts : List (List ℕ)) (v : VersionValue) (told : List Told)
      → IsVersionIn r text v → AllSay r v ranges true → AreLeftOut r ranges texts told
      → AreLeftOut r ranges (text ∷ texts) told
  rejected : (text : List ℕ) (texts : List (List ℕ)) (v : VersionValue) (told : List Told)
      → IsVersionIn r text v → AllSay r v ranges false → AreLeftOut r ranges texts told
      → AreLeftOut r ranges (text ∷ texts)
      (record { text = unwrap_or (part_by r.field text) text; kind = NotAccepted } ∷ told)
  no_version : (text : List ℕ) (texts : List (List ℕ)) (told : List Told) → NoValue (IsVersionIn r text)
      → AreLeftOut r ranges texts told
      → AreLeftOut r ranges (text ∷ texts) (lacking_in r text ∷ told)
