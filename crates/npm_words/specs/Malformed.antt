-- Statement: how far a malformed word goes that is ignored loosely, as node-semver ignores it.
-- Inside it an identifier of any length is whole, where node-semver cuts one of more than 250
-- characters, and a third number has 256 digits at most, where node-semver takes what follows these
-- for a pre-release.
use Rattle.std.specs.Prelude.{◌≡◌, ◌⊎◌, ◌==◌, ◌≤◌, ◌&&◌, ◌||◌, not, ℕ, Bool, true, false, List, [], ◌∷◌, ◌++◌}
use Rattle.std.specs.Prelude.{codes, drop, length}
use Rattle.std.specs.Char.{is_ascii_digit, is_ascii_graphic}
use Rattle.std.specs.List.{ends_with, list_all, prefix_len}
use Rattle.semver_core.specs.Text.Characters.{begins}
use Rattle.semver_core.specs.Text.Identifiers.{pieces}
use Rattle.semver_core.specs.Text.Numbers.{IsNumber}
use Rattle.semver_core.specs.Values.Versions.{VersionValue}
use Rattle.npm_words.specs.Grammar.{IsPreRelease, IsWritten, is_strict_list}
use Rattle.npm_words.specs.Partials.{ArePlaces}
use Rattle.npm_words.specs.Table.{Partial}
use Rattle.semver_core.specs.Text.Boundaries.{IsFirstBoundary, SkipsBlank}

-- `v` or `=`
abbrev pub is_mark : ℕ → Bool
is_mark b = b == 118 || b == 61

-- a number or a wildcard is at its front, or stands there behind marks
abbrev pub begins_place : List ℕ → Bool
begins_place text = begins (λ b. is_ascii_digit b || (b == 120 || (b == 88 || b == 42)))
    (drop (prefix_len is_mark text) text)

-- the identifiers of a pre-release as they stand inside a malformed word: one that begins with a
-- digit is a number
abbrev pub are_found : List ℕ → Bool
are_found ids = list_all (λ id. list_all is_ascii_digit id || not (begins is_ascii_digit id)) (pieces ids)

-- a partial inside a malformed word: a version as it is written loosely, with numbers of at most
-- 256 digits and a pre-release that begins with a digit only behind `-`, or a partial as it is
-- written strictly
pub data IsInside : List ℕ → Type 0 where
  version : (text : List ℕ) (v : VersionValue)
      → IsWritten (λ mark. mark ≡ []) (λ digits n. IsNumber n digits n × (length digits ≤ 256))
      (λ pre ids. (begins is_ascii_digit pre ≡ false)
      × IsPreRelease true false are_found pre ids) text v
      → IsInside text
  partial : (text : List ℕ) (p : Partial)
      → ArePlaces false (λ ids. is_strict_list ids && are_found ids) (λ ids. true) text p
      → IsInside text

-- other characters and such partials, each the longest that stands there, to the end of the text
pub data AreInside : List ℕ → Type 0 where
  none : AreInside []
  more : (front x rest : List ℕ) → list_all (λ b. not (begins_place (b ∷ []))) front ≡ true → IsInside x
      → ((y z : List ℕ) → x ++ rest ≡ y ++ z → IsInside y → length y ≤ length x)
      → AreInside rest → AreInside (front ++ (x ++ rest))

-- what follows these characters behind whitespace belongs to their word: behind `^` and `~`
-- anything, behind `<`, `>`, and a `=` that stands behind no mark, a place, and behind `~>` all but
-- a `=` alone
abbrev pub takes : List ℕ → List ℕ → Bool
takes text rest = let ends = ends_with ◌==◌ text in ends (codes "^") || ends (codes "~")
    || (ends (codes "<") || ends (codes ">")
    || ends (codes "=") && not (ends (codes "v=") || ends (codes "==")))
    && begins_place rest
    || ends (codes "~>")
    && (not (begins (λ b. b == 61) rest) || begins is_ascii_graphic (drop 1 rest))

-- and a place behind a `=` that follows a partial, which may end in `v`
abbrev pub IsTaken : List ℕ → List ℕ → Type 0
IsTaken text rest = (takes text rest ≡ true)
    ⊎ ((front : List ℕ) × (text ≡ front ++ codes "=") × AreInside front
    × (begins_place rest ≡ true))

-- a malformed word at the front of a text ends here: at the first whitespace or the end, unless
-- what follows belongs to it
pub data IsIgnored : List ℕ → List ℕ → Type 0 where
  stops : (text behind rest : List ℕ) (f : IsFirstBoundary text behind) → SkipsBlank behind rest
      → (IsTaken f.0 rest → ⊥) → IsIgnored text behind
  goes_on : (text behind rest end : List ℕ) (f : IsFirstBoundary text behind)
      → SkipsBlank behind rest → IsTaken f.0 rest → IsIgnored rest end → IsIgnored text end
