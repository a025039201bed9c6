-- Statement: which part of a range text node-semver's strict reading rejects first, and where it
-- stands.
use Rattle.std.specs.Prelude.{◌≡◌, ◌+◌, ℕ, Bool, true, false, List, [], ◌∷◌, length}
use Rattle.std.specs.List.{list_all}
use Rattle.semver_core.specs.Text.Characters.{IsTrim}
use Rattle.npm_words.specs.RangeText.{IsAlternative}
use Rattle.npm_words.specs.Alternatives.{is_valid}
use Rattle.npm_words.specs.Table.{Comparison}

-- the text, without the whitespace around it, is an alternative of these comparators, and they are
-- valid
pub record IsAlternativeText (limit : ℕ) (include : Bool) (text : List ℕ) (cs : List Comparison)
    : Type 0 where
  pub middle : List ℕ
  pub trimmed : IsTrim text middle
  pub is : IsAlternative false include middle false cs
  pub valid : list_all (is_valid limit) cs ≡ true

-- how many bytes these pieces take, with the bars behind each
abbrev pub bytes_of : List (List ℕ) → ℕ
bytes_of [] = 0
bytes_of (piece ∷ others) = length piece + 2 + bytes_of others
