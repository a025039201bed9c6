-- Statement. The common range texts, which the fast reader reads, and the intervals that each of them means.
-- Every piece of such a text is named as a whole.
use Rattle.std.specs.Prelude.{◌≡◌, ◌⊎◌, ◌==◌, ◌||◌, ℕ, Bool, true, false, List, [], ◌∷◌, ◌++◌, Some, codes}
use Rattle.std.specs.List.{list_any}
use Rattle.semver_core.specs.Cuts.{Span, meet}
use Rattle.semver_core.specs.Values.Order.{precedence}
use Rattle.semver_core.specs.Values.Versions.{VersionValue}
use Rattle.nodejs_semver.specs.Text.PartialText.{Partial, AreComponents}
use Rattle.nodejs_semver.specs.Text.Table.{table}
use Rattle.semver_core.specs.Text.Comparators.{Comparator}
use Rattle.nodejs_semver.specs.Text.WordText.{Word, caret, compare, hyphen, plain, tilde, IsSign}

-- a comparator and a partial, with neither `v` nor whitespace in front of the partial
pub data IsComparison (limit : ℕ) : List ℕ → Word → Type 0 where
  comparison : (c : Comparator) (sign text : List ℕ) (p : Partial) → IsSign c sign
      → AreComponents limit text p → IsComparison limit (sign ++ text) (compare c p)

-- a word. No whitespace stands in it but one space on each side of the `-` of a hyphen word.
pub data IsCommonWord (limit : ℕ) : List ℕ → Word → Type 0 where
  plain_word : (text : List ℕ) (p : Partial) → AreComponents limit text p → IsCommonWord limit text (plain p)
  compare_word : (text : List ℕ) (word : Word) → IsComparison limit text word → IsCommonWord limit text word
  tilde_word : (x : List ℕ) (p : Partial) → AreComponents limit x p
      → IsCommonWord limit (codes "~" ++ x) (tilde false p)
  tilde_greater_word : (text : List ℕ) (p : Partial) → AreComponents limit text p
      → IsCommonWord limit (codes "~>" ++ text) (tilde true p)
  caret_word : (x : List ℕ) (p : Partial) → AreComponents limit x p
      → IsCommonWord limit (codes "^" ++ x) (caret p)
  hyphen_word : (x y : List ℕ) (p q : Partial) → AreComponents limit x p → AreComponents limit y q
      → IsCommonWord limit (x ++ (codes " - " ++ y)) (hyphen p q)

-- a part and its interval: one word that has bounds, or two comparisons with a space between them that have
-- an interval in common
pub data IsCommonPart (limit : ℕ) : List ℕ → Span VersionValue → Type 0 where
  one_word : (text : List ℕ) (word : Word) (s : Span VersionValue) → IsCommonWord limit text word
      → table limit word ≡ Some s → IsCommonPart limit text s
  two_comparisons : (x y : List ℕ) (v w : Word) (s t both : Span VersionValue) → IsComparison limit x v
      → IsComparison limit y w → table limit v ≡ Some s → table limit w ≡ Some t
      → meet precedence s t ≡ Some both → IsCommonPart limit (x ++ (codes " " ++ y)) both

-- one space, or none
abbrev pub IsGap : List ℕ → Type 0
IsGap text = (text ≡ []) ⊎ (text ≡ codes " ")

-- parts with `||` between them, and one space or none on each side of that
pub data AreCommonParts (limit : ℕ) : List ℕ → List (Span VersionValue) → Type 0 where
  one_part : (x : List ℕ) (s : Span VersionValue) → IsCommonPart limit x s → AreCommonParts limit x (s ∷ [])
  more_parts : (part before after text : List ℕ) (s : Span VersionValue) (list : List (Span VersionValue))
      → IsCommonPart limit part s → IsGap before → IsGap after → AreCommonParts limit text list
      → AreCommonParts limit (part ++ (before ++ (codes "||" ++ (after ++ text)))) (s ∷ list)

-- such parts of which no version has a build: with a `+` each build begins, and nothing else of these parts
abbrev pub IsCommonRange : ℕ → List ℕ → List (Span VersionValue) → Type 0
IsCommonRange limit text list = AreCommonParts limit text list × (list_any (λ b. b == 43) text ≡ false)

-- a field ends before this text: it is empty, or begins with a `;` or a line feed; such parts have neither
abbrev pub ends_field : List ℕ → Bool
ends_field [] = true
ends_field (b ∷ rest) = b == 59 || b == 10
