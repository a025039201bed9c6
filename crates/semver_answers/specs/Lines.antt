-- Statement. The lines of an input, and the fields of a line.
use Rattle.std.specs.Prelude.{◌≡◌, ◌==◌, ℕ, Bool, true, not, if◌then◌else◌, List, [], ◌∷◌, ◌++◌}
use Rattle.std.specs.List.{list_all, flat_map, slice_split}
use Rattle.semver_core.specs.Lists.{is_empty}

-- a line feed stands nowhere in the text
abbrev pub no_feed : List ℕ → Bool
no_feed text = list_all (λ b. not (b == 10)) text

-- a text with a line feed behind it
abbrev pub ended : List ℕ → List ℕ
ended text = text ++ 10 ∷ []

-- the input is these lines, each with its line feed, and a rest without one
pub record HasLines (input : List ℕ) (lines : List (List ℕ)) (rest : List ℕ) : Type 0 where
  pub divided : input ≡ flat_map ended lines ++ rest
  pub each : list_all no_feed lines ≡ true
  pub last : no_feed rest ≡ true

-- a last line without a line feed counts where it is not empty
abbrev pub last_line : List ℕ → List (List ℕ)
last_line rest = if is_empty rest then [] else rest ∷ []

-- the fields of a line, cut at each `;`
abbrev pub fields : List ℕ → List (List ℕ)
fields line = slice_split (λ b. b == 59) line
