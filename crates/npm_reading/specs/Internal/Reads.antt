-- For proofs and private contracts. What the readers of node-semver's range texts find, by the
-- comparators.
use Rattle.std.specs.Prelude.{◌≡◌, ◌&&◌, ◌+◌, not, if◌then◌else◌, true, false, Bool, List, [], ◌∷◌, ◌++◌, ℕ}
use Rattle.std.specs.Prelude.{Option, Some, None, length, is_none}
use Rattle.std.specs.Borrow.{Bor}
use Rattle.std.specs.List.{filter_map, list_all}
use Rattle.std.specs.Option.{unwrap_or}
use Rattle.nodejs_semver.specs.Words.{is_range_span}
use Rattle.semver_core.specs.Cuts.{Span}
use Rattle.semver_core.specs.Internal.Reading.{◌>>?◌}
use Rattle.semver_core.specs.Values.Versions.{VersionValue}
use Rattle.semver_core.specs.declared.TheConstants.{MAX_SAFE_INTEGER}
use Rattle.npm_reading.specs.Internal.Alternatives.{NarrowedBy}
use Rattle.npm_words.specs.Internal.Meaning.{IsNarrowed}
use Rattle.npm_words.specs.Internal.Words.{alternative_of, first_word, kept, words_within}
use Rattle.semver_core.specs.Internal.Parts.{parts}
use Rattle.semver_core.specs.Lists.{is_empty}
use Rattle.npm_words.specs.RangeText.{comparators_of}
use Rattle.npm_words.specs.Alternatives.{interval_in, is_valid}
use Rattle.npm_words.specs.Table.{Comparison}
use Rattle.npm_reading.specs.declared.alternatives.Alternative.{Alternative}
use Rattle.npm_words.specs.Internal.Reads.{valid_one}

-- the word at the front, if its comparators are valid
abbrev pub valid_first : Option (List Comparison) × List ℕ → Option (Option (List Comparison) × List ℕ)
valid_first w = if list_all (is_valid MAX_SAFE_INTEGER) (unwrap_or w.0 []) then Some w else None

abbrev pub first_valid : Bool → Bool → List ℕ → Option (Option (List Comparison) × List ℕ)
first_valid loose include text = first_word loose include text >>? valid_first

-- words, if the comparators of each are valid
abbrev pub valid_all : List (Option (List Comparison)) → Option (List (Option (List Comparison)))
valid_all all = if list_all (is_valid MAX_SAFE_INTEGER) (comparators_of all) then Some all else None

abbrev pub words_of : Bool → Bool → List ℕ → Option (List (Option (List Comparison)))
words_of loose include text = words_within loose include (length text) text >>? valid_all

unfoldable pub valid_alternative : Bool → Bool → List ℕ → Option (Bool × List Comparison)
valid_alternative loose include text = alternative_of loose include text >>? valid_one

-- an alternative is found exactly if there are comparators, and is that of these
abbrev pub IsFound : Bool → Option (Bool × List Comparison) → Option Alternative → Type 0
IsFound include None None = Unit {0}
IsFound include (Some c) (Some a) = IsNarrowed include c.1 a.interval × (a.is_lost ≡ c.0)
IsFound include c a = ⊥

-- an alternative with one word more, whether that is ignored, and what follows it
abbrev pub IsStep : Bool → Alternative → Option (Option (List Comparison) × List ℕ)
    → Option (Alternative × Bool × Bor (List ℕ)) → Type 0
IsStep include all None None = Unit {0}
IsStep include all (Some w) (Some s) = NarrowedBy include all.interval (unwrap_or w.0 []) (Some s.0)
    × (s.0.is_bare ≡ (all.is_bare && is_empty (unwrap_or w.0 []))) × (s.1 ≡ is_none w.0) × (s.2.now ≡ w.1)
IsStep include all w s = ⊥

-- the comparators of each of some alternatives, if each is valid
unfoldable pub valid_alternatives : Bool → Bool → List (List ℕ) → Option (List (List Comparison))
valid_alternatives loose include [] = Some []
valid_alternatives loose include (text ∷ texts) = valid_alternative loose include text >>? λ a.
    valid_alternatives loose include texts >>? λ rest. Some (kept a rest)

-- the intervals of some alternatives, of those that have one, such as a range may have
pub record AreFound (include : Bool) (alternatives : List (List Comparison))
    (found : List (Span VersionValue))
    : Type 0 where
  pub are : found ≡ filter_map (interval_in include) alternatives
  pub spans : list_all (is_range_span (MAX_SAFE_INTEGER + 1)) found ≡ true

-- one part more with these comparators, which may be lost. The flags say whether there was an
-- alternative before it, and with it.
abbrev pub AddsPart : Bool → Option (Bool × List Comparison) → Bool → Bool
    → List (Span VersionValue) → List (Span VersionValue) → Type 0
AddsPart include None was is before after = ⊥
AddsPart include (Some (true, cs)) was is before after = (is ≡ was) × (after ≡ before)
AddsPart include (Some (false, cs)) was is before after =
    (is ≡ true) × ((alternatives : List (List Comparison))
    → AreFound include alternatives before → AreFound include (alternatives ++ cs ∷ []) after)

-- some alternative or more
abbrev pub some_only : List (List Comparison) → Option (List (List Comparison))
some_only all = if not (is_empty all) then Some all else None

abbrev pub valid_range : Bool → Bool → List ℕ → Option (List (List Comparison))
valid_range loose include text = valid_alternatives loose include (parts text) >>? λ all. some_only all
