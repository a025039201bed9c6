-- For proofs and private contracts. What the texts are where the ends of a hyphen range would be,
-- and which of them are right, as functions.
use Rattle.std.specs.Prelude.{◌&&◌, ◌-◌, ℕ, Bool, false, List, length, take, Option, Some, None}
use Rattle.std.specs.Prelude.{if◌then◌else◌}
use Rattle.std.specs.List.{list_all}
use Rattle.semver_core.specs.Internal.Boundaries.{from_boundary}
use Rattle.semver_core.specs.Internal.Reading.{◌>>?◌}
use Rattle.semver_core.specs.Lists.{is_empty}
use Rattle.semver_core.specs.declared.TheConstants.{MAX_SAFE_INTEGER}
use Rattle.npm_words.specs.Alternatives.{is_valid}
use Rattle.npm_words.specs.Internal.Words.{Ended, after_dash, drop_ends, is_free_lower}
use Rattle.npm_words.specs.Internal.Words.{is_free_upper, is_right, last_end, lower_of, upper_of}
use Rattle.npm_words.specs.Table.{Comparison, Partial}

-- what stands behind marks and whitespace and one word
abbrev pub behind_end : List ℕ → List ℕ
behind_end text = from_boundary (drop_ends text)

-- the texts where the ends of a hyphen range would be
unfoldable pub end_texts : List ℕ → Option (List ℕ × List ℕ)
end_texts text = after_dash (behind_end text) >>? λ second.
    if is_empty (behind_end second)
    then Some (take (length text - length (behind_end text)) text, second) else None

-- an end that is read is right, and its comparators are valid
abbrev pub is_right_one : (Partial → Bool) → (Ended → List Comparison) → Option Ended → Bool
is_right_one free row None = false
is_right_one free row (Some e) =
    is_right false free e && list_all (is_valid MAX_SAFE_INTEGER) (row e)

-- the text is the lower end of a hyphen range, or the upper one
abbrev pub is_lower : Bool → List ℕ → Bool
is_lower include text =
    is_right_one is_free_lower (lower_of include) (last_end false text)

abbrev pub is_upper : Bool → List ℕ → Bool
is_upper include text =
    is_right_one (is_free_upper include) (upper_of include) (last_end false text)
