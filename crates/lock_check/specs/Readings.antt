-- Statement: which range a text is to npm, and what stands in a file behind a byte order mark. npm
-- asks node-semver's loose reading of a range text, which has the same answer as the strict one
-- wherever that has one. The loose reading here differs from node-semver's for a few texts. What
-- npm reads in a text that may be one of them is unknown.
use Rattle.std.specs.Prelude.{◌≡◌, ◌<◌, ◌⊎◌, not, nat_lt, ℕ, Bool, true, false, List, codes, length}
use Rattle.std.specs.Char.{is_ascii_digit}
use Rattle.std.specs.List.{list_any, slice_split}
use Rattle.std.specs.Str.Iter.{HasSubslice}
use Rattle.nodejs_semver.specs.Cuts.{Span}
use Rattle.nodejs_semver.specs.Failures.{NoValue}
use Rattle.npm_words.specs.Alternatives.{HasAlternativesIn}
use Rattle.npm_reading.specs.Ranges.{IsRangeIn}
use Rattle.nodejs_semver.specs.Versions.{VersionValue}
use Rattle.semver_core.specs.Text.Bars.{IsCutAtBars}
use Rattle.semver_core.specs.declared.TheConstants.{MAX_SAFE_INTEGER}
use Rattle.lock_check.specs.declared.reading.NpmRange.{NpmRange}
use Rattle.lock_check.specs.declared.reading.NpmRange.TheVariants.{Read, Rejected, Unsure}

-- node-semver may read another range in the text than is read here, or none: a `*` stands in it,
-- which it passes over in a word that is else a whole version, or it has more than 250 bytes
abbrev pub MayDiffer : List ℕ → Type 0
MayDiffer text = HasSubslice text (codes "*") ⊎ (250 < length text)

-- node-semver may read a range in the text where it is rejected here: it has 21 digits in a row, as
-- a number that is 10^21 or more once it is counted up
abbrev pub has_great : List ℕ → Bool
has_great text = list_any (λ run. nat_lt 20 (length run)) (slice_split (λ b. not (is_ascii_digit b)) text)

-- the text has two alternatives or more, with `||` between them
abbrev pub HasAlternatives : List ℕ → Type 0
HasAlternatives text = (pieces : List (List ℕ)) → IsCutAtBars text pieces → 1 < length pieces

-- npm reads the text as this range
pub data IsWanted (limit : ℕ) (text : List ℕ) (range : List (Span VersionValue)) : Type 0 where
  strict : IsRangeIn false limit false text range → IsWanted limit text range
  loose : NoValue (HasAlternativesIn false limit false text) → ¬ (MayDiffer text)
      → IsRangeIn true limit false text range
      → IsWanted limit text range

-- npm reads no range in the text
abbrev pub IsNotWanted : ℕ → List ℕ → Type 0
IsNotWanted limit text = NoValue (HasAlternativesIn false limit false text)
    × NoValue (HasAlternativesIn true limit false text)
    × ¬ (MayDiffer text) × (has_great text ≡ false)

-- what npm reads in the text is unknown
pub data IsUnknown (limit : ℕ) (text : List ℕ) : Type 0 where
  differs : NoValue (HasAlternativesIn false limit false text) → MayDiffer text → IsUnknown limit text
  great : NoValue (HasAlternativesIn false limit false text)
      → NoValue (HasAlternativesIn true limit false text)
      → has_great text ≡ true → IsUnknown limit text

abbrev pub IsNpmRange : List ℕ → NpmRange → Type 0
IsNpmRange text (Read range) = IsWanted MAX_SAFE_INTEGER text range
IsNpmRange text Rejected = IsNotWanted MAX_SAFE_INTEGER text
IsNpmRange text Unsure = IsUnknown MAX_SAFE_INTEGER text
