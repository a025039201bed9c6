-- For proofs and private contracts. What the reader of common range texts finds at the front of a
-- text, as node-semver's strict reading has it.
use Rattle.std.specs.Prelude.{◌≡◌, ◌⊎◌, ◌<◌, ◌||◌, ◌&&◌, ◌==◌, not, nat_lt, ℕ, Bool, true, false, List, []}
use Rattle.std.specs.Prelude.{◌∷◌, ◌++◌, Option, None, Some, length}
use Rattle.std.specs.List.{list_all}
use Rattle.std.specs.Option.{option_to_list}
use Rattle.semver_core.specs.Cuts.{Span, interval}
use Rattle.semver_core.specs.Text.Characters.{begins, ends}
use Rattle.semver_core.specs.Values.Order.{precedence}
use Rattle.semver_core.specs.Values.Versions.{VersionValue}
use Rattle.semver_core.specs.declared.TheConstants.{MAX_SAFE_INTEGER}
use Rattle.semver_core.specs.declared.cuts.bound.Bound.TheVariants.{Unbounded}
use Rattle.semver_core.specs.Internal.Parts.{after_bars}
use Rattle.semver_core.specs.Internal.Fronts.{begins_wildcard}
use Rattle.npm_words.specs.Internal.Meaning.{IsCommon}
use Rattle.npm_words.specs.Internal.Words.{is_over}
use Rattle.npm_words.specs.RangeText.{AreWords, IsWord, comparators_of, spelling}
use Rattle.npm_words.specs.Alternatives.{is_valid}
use Rattle.npm_words.specs.Table.{Comparison, Sign, compared}
use Rattle.semver_core.specs.Text.Comparators.{equal}

-- the sign at the front of a text, and what follows it
abbrev pub IsSignAt : List ℕ → Sign → List ℕ → Type 0
IsSignAt text s rest = (text ≡ spelling s ++ rest) ⊎ ((text ≡ rest) × (s ≡ compared equal))

-- behind the numbers of a partial no place stands, or a wildcard, and then the text ends or goes on
-- with a space or a bar
abbrev pub IsLeft : List ℕ → List ℕ → Type 0
IsLeft text rest = (is_over rest ≡ true)
    × ((text ≡ rest) ⊎ ((b : ℕ) × (text ≡ 46 ∷ (b ∷ rest)) × (begins_wildcard (b ∷ rest) ≡ true)))

-- a visible character other than the bar; or a space
abbrev pub is_word_byte : ℕ → Bool
is_word_byte b = nat_lt 32 b && (nat_lt b 127 && not (b == 124))

abbrev pub is_part_byte : ℕ → Bool
is_part_byte b = is_word_byte b || b == 32

-- the numbers of a version are below those of another one
abbrev pub is_below : VersionValue → VersionValue → Bool
is_below v w = nat_lt v.major w.major
    || v.major == w.major && (nat_lt v.minor w.minor || v.minor == w.minor && nat_lt v.patch w.patch)

-- the comparators are valid, and the span is what they have in common
abbrev pub AreIn : Bool → List Comparison → Span VersionValue → Type 0
AreIn include cs s = (list_all (is_valid MAX_SAFE_INTEGER) cs ≡ true) × IsCommon include cs s

-- the word at the front, with the span of its comparators, and what follows it
pub record IsWordAt (include : Bool) (text : List ℕ) (s : Span VersionValue) (rest : List ℕ) : Type 0 where
  pub word : List ℕ
  pub comparators : List Comparison
  pub split : text ≡ word ++ rest
  pub partial : List ℕ
  pub is : IsWord false include word partial comparators
  pub some : 0 < length word
  pub bytes : list_all is_word_byte word ≡ true
  pub are : AreIn include comparators s

-- the same of a part, which is words with one space between them
pub record IsPartAt (include : Bool) (text : List ℕ) (s : Span VersionValue) (rest : List ℕ) : Type 0 where
  pub part : List ℕ
  pub read : List (Option (List Comparison))
  pub split : text ≡ part ++ rest
  pub is : AreWords false include part read
  pub front : begins is_word_byte part ≡ true
  pub each : list_all is_part_byte part ≡ true
  pub end : ends is_word_byte part ≡ true
  pub are : AreIn include (comparators_of read) s

-- the bounds of two words together, of which the first has no upper bound and the second no lower
-- one
abbrev pub AreJoined : Span VersionValue → Span VersionValue → Span VersionValue → Type 0
AreJoined s t b = (s.upper ≡ Unbounded) × (t.lower ≡ Unbounded)
    × (b ≡ record { lower = s.lower; upper = t.upper })

-- the part at the front was read, and its interval added to a list, where its cuts meet; or the
-- list is as it was
abbrev pub IsTried : Bool → List ℕ → Option (List ℕ) → List (Span VersionValue)
    → List (Span VersionValue) → Type 0
IsTried include text None old new = new ≡ old
IsTried include text (Some rest) old new =
    (s : Span VersionValue) × IsPartAt include text s rest
    × (new ≡ old ++ option_to_list (interval precedence s))

-- the intervals of the parts of a text, of those whose cuts meet
pub data AreParts (include : Bool) : List ℕ → List (Span VersionValue) → Type 0 where
  one : (text : List ℕ) (s : Span VersionValue) → IsPartAt include text s []
      → AreParts include text (option_to_list (interval precedence s))
  more : (text behind next : List ℕ) (s : Span VersionValue) (ss : List (Span VersionValue))
      → IsPartAt include text s behind
      → after_bars behind ≡ Some next → AreParts include next ss
      → AreParts include text (option_to_list (interval precedence s) ++ ss)
