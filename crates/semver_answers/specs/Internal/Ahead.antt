-- For proofs. The first line of a text that holds lines, and the fields of that line.
use Rattle.std.specs.Prelude.{◌≡◌, ◌==◌, ℕ, Bool, true, if◌then◌else◌, List, [], ◌∷◌, IsUtf8}
use Rattle.std.specs.Borrow.{Bor}
pub use Rattle.semver_core.specs.Words.{HasFeed}
use Rattle.semver_answers.specs.Lines.{fields}
use Rattle.semver_answers.specs.declared.fields.Behind.{Behind}
use Rattle.semver_answers.specs.declared.fields.Behind.TheVariants.{Fields, Lines}

-- what stands before the first line feed, and behind it
abbrev pub first_line : List ℕ → List ℕ
first_line [] = []
first_line (c ∷ rest) = if c == 10 then [] else c ∷ first_line rest

abbrev pub behind_line : List ℕ → List ℕ
behind_line [] = []
behind_line (c ∷ rest) = if c == 10 then rest else behind_line rest

-- the fields of its first line
abbrev pub fields_ahead : List ℕ → List (List ℕ)
fields_ahead text = fields (first_line text)

-- this stands behind its first line
abbrev pub IsNext : List ℕ → Bor (List ℕ) → Type 0
IsNext text next = (next.now ≡ behind_line text) × IsUtf8 next.now

-- the line's fields behind a field, and the text behind the line
abbrev pub fields_behind : Behind → List (List ℕ)
fields_behind (Fields rest) = fields_ahead rest.now
fields_behind (Lines rest) = []

abbrev pub lines_behind : Behind → List ℕ
lines_behind (Fields rest) = behind_line rest.now
lines_behind (Lines rest) = rest.now

-- the next field, or the next line, can be read
abbrev pub GoesOn : Behind → Type 0
GoesOn (Fields rest) = HasFeed rest.now × IsUtf8 rest.now
GoesOn (Lines rest) = IsUtf8 rest.now

-- the first field of the first line, and what stands behind it
pub record Cuts (text field : List ℕ) (behind : Behind) : Type 0 where
  pub first : fields_ahead text ≡ field ∷ fields_behind behind
  pub next : behind_line text ≡ lines_behind behind
  pub goes_on : GoesOn behind

-- each line of a text ends in it
unfoldable pub ends_whole : List ℕ → Bool
ends_whole [] = true
ends_whole (c ∷ []) = c == 10
ends_whole (c ∷ d ∷ rest) = ends_whole (d ∷ rest)
