-- Statement. The words of a part, and what each is as a text.
use Rattle.std.specs.Prelude.{ℕ, Bool, true, false, List, ◌++◌, codes}
use Rattle.semver_core.specs.Text.Characters.{BeginsBlank}
use Rattle.nodejs_semver.specs.Text.LongestText.{IsLongestPartial}
use Rattle.nodejs_semver.specs.Text.PartialText.{Partial}
pub use Rattle.semver_core.specs.Text.Boundaries.{IsBoundary, IsFirstBoundary, SkipsBlank}
pub use Rattle.semver_core.specs.Text.Comparators.{Comparator, above, at_least, at_most, below, equal}

-- the forms of words. Of a tilde it is said whether `>` stands behind it.
pub data Word : Type 0 where
  hyphen : Partial → Partial → Word
  plain caret : Partial → Word
  compare : Comparator → Partial → Word
  tilde : Bool → Partial → Word
  malformed : Word

-- a comparator as it is written
pub data IsSign : Comparator → List ℕ → Type 0 where
  above_sign : IsSign above (codes ">")
  at_least_sign : IsSign at_least (codes ">=")
  below_sign : IsSign below (codes "<")
  at_most_sign : IsSign at_most (codes "<=")
  equal_sign : IsSign equal (codes "=")

-- the longest partial at the front of the text, up to a boundary
pub record IsWhole (limit : ℕ) (text : List ℕ) (p : Partial) (rest : List ℕ) : Type 0 where
  pub read : IsLongestPartial limit text p rest
  pub ended : IsBoundary rest

-- whitespace or none, and such a partial
abbrev pub IsBehind : ℕ → List ℕ → Partial → List ℕ → Type 0
IsBehind limit text p rest = (start : List ℕ) × SkipsBlank text start × IsWhole limit start p rest

-- a partial, whitespace, `-`, whitespace and a partial up to a boundary
abbrev pub IsHyphen : ℕ → List ℕ → Partial → Partial → List ℕ → Type 0
IsHyphen limit text lower upper rest = (before after : List ℕ) × IsLongestPartial limit text lower before
    × BeginsBlank before × SkipsBlank before (codes "-" ++ after)
    × BeginsBlank after × IsBehind limit after upper rest

-- the forms of words. A partial by itself is a word where it begins no hyphen word.
pub data IsForm (limit : ℕ) : List ℕ → Word → List ℕ → Type 0 where
  hyphen_form : (text : List ℕ) (p q : Partial) (rest : List ℕ) → IsHyphen limit text p q rest
      → IsForm limit text (hyphen p q) rest
  plain_form : (text : List ℕ) (p : Partial) (rest : List ℕ) → IsWhole limit text p rest
      → ((l u : Partial) (x : List ℕ) → IsHyphen limit text l u x → ⊥) → IsForm limit text (plain p) rest
  compare_form : (c : Comparator) (sign text : List ℕ) (p : Partial) (rest : List ℕ) → IsSign c sign
      → IsBehind limit text p rest → IsForm limit (sign ++ text) (compare c p) rest
  tilde_form : (text : List ℕ) (p : Partial) (rest : List ℕ) → IsBehind limit text p rest
      → IsForm limit (codes "~" ++ text) (tilde false p) rest
  tilde_greater_form : (text x : List ℕ) (p : Partial) (rest : List ℕ) → SkipsBlank text (codes ">" ++ x)
      → IsBehind limit x p rest → IsForm limit (codes "~" ++ text) (tilde true p) rest
  caret_form : (text : List ℕ) (p : Partial) (rest : List ℕ) → IsBehind limit text p rest
      → IsForm limit (codes "^" ++ text) (caret p) rest

-- a word at the front of a text and what follows it: one of the forms, or, where none stands there, what goes
-- to the next boundary
pub data IsWordAt (limit : ℕ) : List ℕ → Word → List ℕ → Type 0 where
  formed : (text : List ℕ) (w : Word) (rest : List ℕ) → IsForm limit text w rest → IsWordAt limit text w rest
  no_form : (text rest : List ℕ) → ((word : Word) (other : List ℕ) → IsForm limit text word other → ⊥)
      → IsFirstBoundary text rest → IsWordAt limit text malformed rest
