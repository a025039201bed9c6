-- Statement. The longest partial at the front of a text.
use Rattle.std.specs.Char.{is_ascii_digit}
use Rattle.std.specs.Prelude.{◌≡◌, ◌≤◌, ◌&&◌, ℕ, false, List, ◌++◌, length}
use Rattle.semver_core.specs.Text.Characters.{begins, ends}
use Rattle.nodejs_semver.specs.Text.PartialText.{IsPartial, Partial}

-- the text is this partial and a rest, between which no run of digits is cut
abbrev pub BeginsPartial : ℕ → (text front : List ℕ) → Partial → List ℕ → Type 0
BeginsPartial limit text front p rest = (text ≡ front ++ rest) × IsPartial limit front p
    × ((ends is_ascii_digit front && begins is_ascii_digit rest) ≡ false)

-- the text begins with this partial, the rest follows it, and no partial at its front is longer
abbrev pub IsLongestPartial : ℕ → List ℕ → Partial → List ℕ → Type 0
IsLongestPartial limit text p rest = (front : List ℕ) × BeginsPartial limit text front p rest
    × ((x y : List ℕ) (q : Partial) → BeginsPartial limit text x q y → length x ≤ length front)
