-- Statement: the words of a command line.
use Rattle.std.specs.Prelude.{◌<◌, ◌≢◌, ◌∷◌, ◌++◌, [], ℕ, List, Option, Some, None, length, get_or}

-- no `=` stands in the text
abbrev pub IsUncut : List ℕ → Type 0
IsUncut text = (i : ℕ) → i < length text → get_or text i 0 ≢ 61

-- the first word, where an option may stand, and the words behind it: an argument, or its part
-- before the first `=`, behind which the rest of the argument is the next word
pub data FirstWord : List (List ℕ) → List ℕ → List (List ℕ) → Type 0 where
  whole : (word : List ℕ) (rest : List (List ℕ)) → IsUncut word → FirstWord (word ∷ rest) word rest
  front : (word behind : List ℕ) (rest : List (List ℕ)) → IsUncut word
      → FirstWord ((word ++ 61 ∷ behind) ∷ rest) word (behind ∷ rest)

-- the word that is next, if one is
abbrev pub value : List (List ℕ) → Option (List ℕ)
value [] = None
value (word ∷ rest) = Some word
