-- Statement. What a range text means: a list of intervals. The text has a range exactly where that list is
-- not empty.
use Rattle.std.specs.Prelude.{ℕ, List, [], ◌∷◌, ◌++◌, map, filter_map}
use Rattle.std.specs.List.{AllByRecursion}
use Rattle.semver_core.specs.Text.Characters.{IsBlank, IsTrim}
use Rattle.semver_core.specs.Cuts.{Span}
use Rattle.semver_core.specs.Values.Order.{precedence}
use Rattle.semver_core.specs.Values.Versions.{VersionValue}
use Rattle.semver_core.specs.Text.Bars.{IsCutAtBars}
use Rattle.nodejs_semver.specs.Ranges.View.{any_version}
use Rattle.nodejs_semver.specs.Text.Runs.{AreRuns, Run, interval_of}
use Rattle.nodejs_semver.specs.Text.Table.{table}
use Rattle.nodejs_semver.specs.Text.WordText.{IsWordAt, Word}
use Rattle.semver_core.specs.Text.Boundaries.{SkipsBlank}

-- the words of a part, from the left, without the whitespace behind each
pub data AreWords (limit : ℕ) : List ℕ → List Word → Type 0 where
  no_word : AreWords limit [] []
  next_word : (b : ℕ) (text behind next : List ℕ) (word : Word) (others : List Word)
      → IsWordAt limit (b ∷ text) word behind → SkipsBlank behind next → AreWords limit next others
      → AreWords limit (b ∷ text) (word ∷ others)

-- the words of what stands between bars: those of the part in it
abbrev pub HasWords : ℕ → List ℕ → List Word → Type 0
HasWords limit piece words = (part : List ℕ) × IsTrim piece part × AreWords limit part words

-- its runs: the division of the bounds that its words have
abbrev pub HasRuns : ℕ → List ℕ → List (Run VersionValue) → Type 0
HasRuns limit piece runs = (ws : List Word) × HasWords limit piece ws
    × AreRuns precedence (filter_map (table limit) ws) runs

-- the intervals of all pieces, one piece after another: one without bounds for a piece of whitespace alone,
-- and else those of its runs
pub data AreAllIntervals (limit : ℕ) : List (List ℕ) → List (Span VersionValue) → Type 0 where
  no_piece : AreAllIntervals limit [] []
  blank_piece : (piece : List ℕ) (pieces : List (List ℕ)) (others : List (Span VersionValue)) → IsBlank piece
      → AreAllIntervals limit pieces others → AreAllIntervals limit (piece ∷ pieces) (any_version ++ others)
  next_piece : (piece : List ℕ) (pieces : List (List ℕ)) (runs : List (Run VersionValue))
      (others : List (Span VersionValue)) → (IsBlank piece → ⊥) → HasRuns limit piece runs
      → AreAllIntervals limit pieces others
      → AreAllIntervals limit (piece ∷ pieces) (map (interval_of precedence) runs ++ others)

-- the text is whitespace and bars alone
unfoldable pub IsBlankText : List ℕ → Type 0
IsBlankText text = (pieces : List (List ℕ)) × IsCutAtBars text pieces × AllByRecursion IsBlank pieces

-- the text means these intervals: one without bounds where all pieces are blank, and else those of its pieces
-- in order
pub data Means (limit : ℕ) (text : List ℕ) : List (Span VersionValue) → Type 0 where
  every_version : IsBlankText text → Means limit text any_version
  all_intervals : (pieces : List (List ℕ)) (list : List (Span VersionValue)) → IsCutAtBars text pieces
      → (AllByRecursion IsBlank pieces → ⊥) → AreAllIntervals limit pieces list → Means limit text list
