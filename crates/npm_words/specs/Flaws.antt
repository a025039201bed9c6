-- Statement: what is wrong with a version text of node-semver's strict reading, and at which byte.
use Rattle.std.specs.Prelude.{◌≡◌, ◌==◌, ◌<◌, ◌≤◌, ◌||◌, ◌↔◌, ℕ, Bool, true, List, [], ◌∷◌, ◌++◌}
use Rattle.std.specs.Prelude.{encode_utf8_all, if◌then◌else◌, length}
use Rattle.std.specs.Char.{is_ascii_digit}
use Rattle.std.specs.Int.{is_in_range}
use Rattle.std.specs.Str.{chars}
use Rattle.semver_core.specs.Text.Characters.{IsTrim, begins, ends}
use Rattle.semver_core.specs.Values.Versions.{VersionValue}
use Rattle.semver_core.specs.declared.TheConstants.{MAX_LENGTH}
use Rattle.npm_words.specs.VersionText.{IsStrictVersion}
use Rattle.npm_words.specs.declared.flaws.Flaw.{Flaw}
use Rattle.npm_words.specs.declared.flaws.Flaw.TheVariants.{At, TooLong}
use Rattle.npm_words.specs.declared.flaws.Wrong.{Wrong}
use Rattle.npm_words.specs.declared.flaws.Wrong.TheVariants.{Behind, Digit, Dot, Identifier, LeadingZero}
use Rattle.npm_words.specs.declared.flaws.Wrong.TheVariants.{Mark, MissingHyphen, NumberTooGreat}

-- the text is a version, with whitespace around it, whatever its length
pub record IsSpelled (limit : ℕ) (text : List ℕ) : Type 0 where
  pub version : VersionValue
  pub middle : List ℕ
  pub trimmed : IsTrim text middle
  pub is : IsStrictVersion limit middle version

-- some such text begins with these characters
abbrev pub IsFront : ℕ → List ℕ → Type 0
IsFront limit front = (more : List ℕ) × IsSpelled limit (encode_utf8_all (front ++ more))

-- the characters before this place begin such a text. With the next one they don't; and the text
-- itself is none, which at its end is all there is to say.
pub record IsStop (limit : ℕ) (text : List ℕ) (at : ℕ) : Type 0 where
  pub before : List ℕ
  pub behind : List ℕ
  pub divided : text ≡ encode_utf8_all (before ++ behind)
  pub place : at ≡ length (encode_utf8_all before)
  pub right : IsFront limit before
  pub wrong : (c : ℕ) (rest : List ℕ) → behind ≡ c ∷ rest → IsFront limit (before ++ c ∷ []) → ⊥
  pub none : IsSpelled limit text → ⊥

-- which characters go on from a front to a longer one, and which would if numbers might be greater
pub record GoesOn (limit : ℕ) (before : List ℕ) : Type 0 where
  pub may : ℕ → Bool
  pub great : ℕ → Bool
  pub may_is : (c : ℕ) → (may c ≡ true) ↔ IsFront limit (before ++ c ∷ [])
  pub great_is : (c : ℕ) → (great c ≡ true) ↔ ((more : ℕ) × IsFront more (before ++ c ∷ []))

-- a letter; and what is written before a version in other places: `v`, `V` and `=`
abbrev pub is_letter : ℕ → Bool
is_letter c = is_in_range 65 90 c || is_in_range 97 122 c

abbrev pub is_any_mark : ℕ → Bool
is_any_mark c = c == 118 || c == 86 || c == 61

-- what is wrong where a text stops, by what may stand there and by what does: `a` goes on in a list
-- of identifiers, a dot between numbers, `-` behind the last of them, and `0` where a number begins
abbrev pub wrong_of : (ℕ → Bool) → (ℕ → Bool) → List ℕ → List ℕ → Wrong
wrong_of may great before behind =
    if begins great behind then NumberTooGreat
    else if may 97 then (if may 46 then Behind
    else if ends is_ascii_digit before then LeadingZero else Identifier)
    else if may 46 then (if begins is_ascii_digit behind then LeadingZero else Dot)
    else if may 45 then (if begins is_ascii_digit behind then LeadingZero
    else if begins is_letter behind then MissingHyphen else Behind)
    else if may 48 then (if begins is_any_mark behind then Mark else Digit)
    else Behind

-- the text stops at this place, where this is wrong
abbrev pub IsWrong : ℕ → List ℕ → Wrong → ℕ → Type 0
IsWrong limit text wrong at = (s : IsStop limit text at) × (g : GoesOn limit s.before)
    × (wrong ≡ wrong_of g.may g.great s.before s.behind)

-- this is the flaw of a text
abbrev pub IsFlaw : ℕ → List ℕ → Flaw → Type 0
IsFlaw limit text TooLong = MAX_LENGTH < length (chars text)
IsFlaw limit text (At wrong at) = (length (chars text) ≤ MAX_LENGTH) × IsWrong limit text wrong at
