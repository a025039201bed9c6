-- Statement: the words of a range text that mean nothing, with their places and kinds.
use Rattle.std.specs.Prelude.{◌≡◌, ℕ, ◌+◌, ◌-◌, true, false, if◌then◌else◌, List, [], ◌∷◌, ◌++◌, Option, Some}
use Rattle.std.specs.Prelude.{None, encode_utf8_all, is_none, is_some, length}
use Rattle.std.specs.List.{AllByRecursion, AllZip, filter, list_all}
use Rattle.semver_core.specs.Lists.{is_empty}
use Rattle.semver_core.specs.Text.Characters.{IsTrim}
use Rattle.semver_core.specs.Text.Bars.{IsCutAtBars}
use Rattle.nodejs_semver.specs.Text.Meaning.{HasWords}
use Rattle.nodejs_semver.specs.Text.Table.{table}
use Rattle.nodejs_semver.specs.Text.WordText.{IsWordAt, Word, malformed}
use Rattle.semver_core.specs.Text.Boundaries.{SkipsBlank}
use Rattle.nodejs_semver.specs.declared.diagnosis.ranges.IgnoredKind.{IgnoredKind}
use Rattle.nodejs_semver.specs.declared.diagnosis.ranges.IgnoredKind.TheVariants.{Malformed, WithoutBounds}
use Rattle.nodejs_semver.specs.declared.diagnosis.ranges.IgnoredWord.{IgnoredWord}

-- why a word means nothing: it is malformed, or it has a form but the table gives it no bounds
abbrev pub ignored_as : ℕ → Word → Option IgnoredKind
ignored_as limit malformed = Some Malformed
ignored_as limit word = if is_some (table limit word) then None else Some WithoutBounds

-- the word between two places, if it is ignored
abbrev pub if_ignored : Option IgnoredKind → ℕ → ℕ → List IgnoredWord
if_ignored found i j = elim found [ None ↦ [] | Some kind ↦ record { start = i; end = j; kind = kind } ∷ [] ]

-- the ignored words of a part, from the left. The part ends at this place of the text.
pub data AreIgnoredOf (limit place : ℕ) : List ℕ → List IgnoredWord → Type 0 where
  no_word : AreIgnoredOf limit place [] []
  next_word : (b : ℕ) (text behind next : List ℕ) (word : Word) (others : List IgnoredWord)
      → IsWordAt limit (b ∷ text) word behind → SkipsBlank behind next → AreIgnoredOf limit place next others
      → AreIgnoredOf limit place (b ∷ text)
      (if_ignored (ignored_as limit word) (place - length (b ∷ text)) (place - length behind) ++ others)

-- those of all pieces, one piece after another. The first piece begins at this place of the text.
pub data AreAllIgnored (limit : ℕ) : ℕ → List (List ℕ) → List IgnoredWord → Type 0 where
  no_piece : (place : ℕ) → AreAllIgnored limit place [] []
  next_piece : (at : ℕ) (q part : List ℕ) (qs : List (List ℕ)) (ws us : List IgnoredWord)
      (t : IsTrim q part) → AreIgnoredOf limit (at + length (encode_utf8_all t.before) + length part) part ws
      → AreAllIgnored limit (at + length q + 2) qs us → AreAllIgnored limit at (q ∷ qs) (ws ++ us)

-- these are the ignored words of a range text, from the left
abbrev pub AreIgnored : ℕ → List ℕ → List IgnoredWord → Type 0
AreIgnored limit text ws = (ps : List (List ℕ)) × IsCutAtBars text ps × AreAllIgnored limit 0 ps ws

-- the pieces of another text have, but for ignored words, the same words each as the piece at its place, and
-- some word exactly where that has one
abbrev pub AreAlike : ℕ → List ℕ → List ℕ → Type 0
AreAlike limit text other = (ps qs : List (List ℕ)) × IsCutAtBars text ps × IsCutAtBars other qs
    × AllZip (λ piece other. (ws us : List Word) × HasWords limit piece ws × HasWords limit other us
    × (filter (λ w. is_none (ignored_as limit w)) ws ≡ filter (λ w. is_none (ignored_as limit w)) us)
    × (is_empty ws ≡ is_empty us)) ps qs

-- each piece of the text has words, and all of them are ignored
abbrev pub IsWhollyIgnored : ℕ → List ℕ → Type 0
IsWhollyIgnored max text = (ps : List (List ℕ)) × IsCutAtBars text ps × AllByRecursion (λ p. (ws : List Word)
    × HasWords max p ws × (is_empty ws ≡ false) × (list_all (λ w. is_some (ignored_as max w)) ws ≡ true)) ps

-- each word of each piece of the text has bounds
abbrev pub IsWhollyBounded : ℕ → List ℕ → Type 0
IsWhollyBounded max text = (ps : List (List ℕ)) × IsCutAtBars text ps × AllByRecursion (λ p. (ws : List Word)
    × HasWords max p ws × (list_all (λ w. is_some (table max w)) ws ≡ true)) ps
