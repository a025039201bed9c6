-- Statement: what the arguments of the command ask for.
use Rattle.std.specs.Prelude.{◌≡◌, ◌≢◌, ◌==◌, ◌&&◌, ◌∷◌, ◌++◌, [], not, ℕ, Bool, true, false, List, Option}
use Rattle.std.specs.Prelude.{◌^◌, Some, None, codes, drop, nat_lt, take, unwrap_or, if◌then◌else◌}
use Rattle.std.specs.Char.{is_ascii_digit}
use Rattle.std.specs.List.{list_all, list_any}
use Rattle.std.specs.Str.{bytes_eq}
use Rattle.std.specs.Str.Parse.{digits_value}
use Rattle.semver_core.specs.Text.Characters.{begins}
use Rattle.semver_core.specs.declared.increment.IdentifierBase.{IdentifierBase}
use Rattle.semver_core.specs.declared.increment.IdentifierBase.TheVariants.{False, Value}
use Rattle.npm_semver.specs.Readings.{strictly}
use Rattle.npm_semver.specs.Words.{FirstWord, value}
use Rattle.npm_semver.specs.declared.question.Pick.{Pick}
use Rattle.npm_semver.specs.declared.question.Pick.TheVariants as Picks
use Rattle.npm_semver.specs.declared.question.Word.{Word}
use Rattle.npm_semver.specs.declared.reading.ReadOptions.{ReadOptions}
use Rattle.npm_semver.specs.declared.question.Word.TheVariants.{Help, IncludePrerelease, Reverse, Range}
use Rattle.npm_semver.specs.declared.question.Word.TheVariants.{Version, Increment, Identifier, Base, Loose}
use Rattle.npm_semver.specs.declared.question.Word.TheVariants.{Coerce, FromRight, FromLeft, Greatest, Least}
use Rattle.npm_semver.specs.declared.question.Word.TheVariants.{AsWritten, Json, Strict, Why, KeepOrder}
use Rattle.npm_semver.specs.declared.question.Word.TheVariants.{Field, Input, Nul, Unknown, Text}

abbrev pub is_one_of : List (List ℕ) → List ℕ → Bool
is_one_of words text = list_any (bytes_eq text) words

-- the options by their words
abbrev pub word_of : List ℕ → Word
word_of word =
    if is_one_of (codes "-h" ∷ codes "--help" ∷ codes "-?" ∷ []) word then Help
    else if is_one_of (codes "-p" ∷ codes "--include-prerelease" ∷ []) word then IncludePrerelease
    else if is_one_of (codes "-rv" ∷ codes "-rev" ∷ codes "--rev" ∷ codes "--reverse" ∷ []) word then Reverse
    else if is_one_of (codes "-r" ∷ codes "--range" ∷ []) word then Range
    else if is_one_of (codes "-v" ∷ codes "--version" ∷ []) word then Version
    else if is_one_of (codes "-i" ∷ codes "--inc" ∷ codes "--increment" ∷ []) word then Increment
    else if is_one_of (codes "--preid" ∷ []) word then Identifier
    else if is_one_of (codes "-n" ∷ []) word then Base
    else if is_one_of (codes "-l" ∷ codes "--loose" ∷ []) word then Loose
    else if is_one_of (codes "-c" ∷ codes "--coerce" ∷ []) word then Coerce
    else if is_one_of (codes "--rtl" ∷ []) word then FromRight
    else if is_one_of (codes "--ltr" ∷ []) word then FromLeft
    else if is_one_of (codes "--max" ∷ []) word then Greatest
    else if is_one_of (codes "--min" ∷ []) word then Least
    else if is_one_of (codes "--as-written" ∷ []) word then AsWritten
    else if is_one_of (codes "--field" ∷ []) word then Field
    else if is_one_of (codes "--json" ∷ []) word then Json
    else if is_one_of (codes "--strict" ∷ []) word then Strict
    else if is_one_of (codes "--why" ∷ []) word then Why
    else if is_one_of (codes "--keep-order" ∷ []) word then KeepOrder
    else if is_one_of (codes "-" ∷ []) word then Input
    else if is_one_of (codes "-z" ∷ []) word then Nul
    else if begins (λ b. b == 45) word then Unknown
    else Text

-- what is asked: the texts that may be versions, the range texts, the level, the identifier and the
-- first number of a next version, whether the greatest version is printed first, how texts are
-- read, which versions are printed, whether in the order of the texts, whether as they were given,
-- and whether as JSON, whether what is not read is an error, and is told, the first word that looks
-- like an option and is none, whether records of the input may be versions, and whether a NUL byte
-- ends each record in place of a line feed
pub record Asked : Type 0 where
  pub versions : List (List ℕ)
  pub ranges : List (List ℕ)
  pub level : Option (List ℕ)
  pub identifier : Option (List ℕ)
  pub base : IdentifierBase
  pub is_reversed : Bool
  pub reading : ReadOptions
  pub pick : Pick
  pub keeps_order : Bool
  pub as_written : Bool
  pub is_json : Bool
  pub is_strict : Bool
  pub is_why : Bool
  pub unknown : Option (List ℕ)
  pub reads_input : Bool
  pub ends_in_nul : Bool

abbrev pub nothing_asked : Asked
nothing_asked = record {
  versions = [];
  ranges = [];
  level = None;
  identifier = None;
  base = Value 0;
  is_reversed = false;
  reading = strictly;
  pick = Picks.All;
  keeps_order = false;
  as_written = false;
  is_json = false;
  is_strict = false;
  is_why = false;
  unknown = None;
  reads_input = false;
  ends_in_nul = false;
}

abbrev pub is_level : List ℕ → Bool
is_level = is_one_of (codes "major" ∷ codes "minor" ∷ codes "patch" ∷ codes "premajor" ∷ codes "preminor"
    ∷ codes "prepatch" ∷ codes "prerelease" ∷ [])

-- `-i` has a level as its value only if the word behind it is one, and else it is `patch`
abbrev pub has_level : List (List ℕ) → Bool
has_level behind = is_level (unwrap_or (value behind) [])

abbrev pub level_of : List (List ℕ) → List ℕ
level_of behind = if has_level behind then unwrap_or (value behind) [] else codes "patch"

-- `false` is no number, digits that are not all 0 are 1, and all else is 0
abbrev pub base_of : Option (List ℕ) → IdentifierBase
base_of None = Value 0
base_of (Some text) = if bytes_eq text (codes "false") then False
    else if list_all is_ascii_digit text && not (list_all (λ b. b == 48) text) then Value 1 else Value 0

-- the number of a field is digits alone; 0 stands for all that is no number of a field
abbrev pub field_of : Option (List ℕ) → ℕ
field_of None = 0
field_of (Some text) =
    if list_all is_ascii_digit text && nat_lt (digits_value 10 text) (2 ^ 64) then digits_value 10 text else 0

-- what is asked in all once this word is read, behind which these words stand
abbrev pub asked_by : Word → List ℕ → List (List ℕ) → Asked → Asked
asked_by Help text behind q = q
asked_by IncludePrerelease text behind q =
    record q { reading = record q.reading { include_prerelease = true } }
asked_by Loose text behind q = record q { reading = record q.reading { is_loose = true } }
asked_by Coerce text behind q = record q { reading = record q.reading { is_coerced = true } }
asked_by FromRight text behind q = record q { reading = record q.reading { from_right = true } }
asked_by FromLeft text behind q = record q { reading = record q.reading { from_right = false } }
asked_by Greatest text behind q = record q { pick = Picks.Greatest }
asked_by Least text behind q = record q { pick = Picks.Least }
asked_by KeepOrder text behind q = record q { keeps_order = true }
asked_by AsWritten text behind q = record q { as_written = true }
asked_by Field text behind q = record q {
  reading = record q.reading { field = Some (field_of (value behind)) };
  as_written = true;
}
asked_by Json text behind q = record q { is_json = true }
asked_by Strict text behind q = record q { is_strict = true }
asked_by Why text behind q = record q { is_why = true }
asked_by Input text behind q = record q { reads_input = true }
asked_by Nul text behind q = record q { ends_in_nul = true }
asked_by Unknown text behind q =
    record q { versions = q.versions ++ text ∷ []; unknown = Some (unwrap_or q.unknown text) }
asked_by Reverse text behind q = record q { is_reversed = true }
asked_by Range text behind q =
    record q { ranges = q.ranges ++ unwrap_or (value behind) (codes "undefined") ∷ [] }
asked_by Version text behind q = record q { versions = q.versions ++ take 1 behind }
asked_by Increment text behind q = record q { level = Some (level_of behind) }
asked_by Identifier text behind q = record q { identifier = value behind }
asked_by Base text behind q = record q { base = base_of (value behind) }
asked_by Text text behind q = record q { versions = q.versions ++ text ∷ [] }

-- the words that are left then
abbrev pub left_by : Word → List (List ℕ) → List (List ℕ)
left_by Range behind = drop 1 behind
left_by Version behind = drop 1 behind
left_by Identifier behind = drop 1 behind
left_by Base behind = drop 1 behind
left_by Field behind = drop 1 behind
left_by Increment behind = if has_level behind then drop 1 behind else behind
left_by word behind = behind

-- what these words ask, beside what is asked before them; None is the text of `--help`
pub data Asks : List (List ℕ) → Asked → Option Asked → Type 0 where
  all : (q : Asked) → Asks [] q (Some q)
  help : (words behind : List (List ℕ)) (word : List ℕ) (q : Asked) → FirstWord words word behind
      → word_of word ≡ Help → Asks words q None
  next : (words behind : List (List ℕ)) (word : List ℕ) (q : Asked) (asked : Option Asked)
      → FirstWord words word behind → word_of word ≢ Help
      → Asks (left_by (word_of word) behind) (asked_by (word_of word) word behind q) asked
      → Asks words q asked

-- what the arguments ask: no arguments ask for the text of `--help`
pub data IsAsked : List (List ℕ) → Option Asked → Type 0 where
  none : IsAsked [] None
  some : (argument : List ℕ) (arguments : List (List ℕ)) (asked : Option Asked)
      → Asks (argument ∷ arguments) nothing_asked asked → IsAsked (argument ∷ arguments) asked
