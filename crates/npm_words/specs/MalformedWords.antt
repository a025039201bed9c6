-- Statement: which word of an alternative node-semver's strict reading rejects first, and where it
-- stands.
use Rattle.std.specs.Prelude.{◌≡◌, ◌+◌, ℕ, Bool, true, false, List, length}
use Rattle.std.specs.List.{list_all}
use Rattle.semver_core.specs.Failures.{NoValue}
use Rattle.npm_words.specs.RangeText.{BeginsWord}
use Rattle.npm_words.specs.Alternatives.{is_valid}
use Rattle.npm_words.specs.Table.{Comparison}
use Rattle.semver_core.specs.Text.Boundaries.{IsFirstBoundary, SkipsBlank}

-- a word of valid comparators is at the front of the text, and this behind it
pub record IsRightWord (limit : ℕ) (include : Bool) (text behind : List ℕ) : Type 0 where
  pub partial : List ℕ
  pub comparators : List Comparison
  pub is : BeginsWord false include text partial behind comparators
  pub valid : list_all (is_valid limit) comparators ≡ true

-- this is left of a text behind some such words, and the whitespace behind each
pub data IsLeft (limit : ℕ) (include : Bool) (left : List ℕ) : List ℕ → Type 0 where
  here : IsLeft limit include left left
  on : (text behind rest : List ℕ) → IsRightWord limit include text behind → SkipsBlank behind rest
      → IsLeft limit include left rest → IsLeft limit include left text

-- the first word of the text that is not right stands at these bytes: those before it are right,
-- and it goes on up to whitespace or the end
pub record IsMalformedWord (limit : ℕ) (include : Bool) (text : List ℕ) (start end : ℕ) : Type 0 where
  pub left : List ℕ
  pub behind : List ℕ
  pub right : IsLeft limit include left text
  pub wrong : NoValue (IsRightWord limit include left)
  pub ended : IsFirstBoundary left behind
  pub start_is : start + length left ≡ length text
  pub end_is : end + length behind ≡ length text
