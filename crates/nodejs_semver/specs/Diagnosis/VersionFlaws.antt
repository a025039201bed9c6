-- Statement: what is wrong with a version text, and at which byte.
use Rattle.std.specs.Prelude.{◌≡◌, ◌==◌, ◌<◌, ◌≤◌, ℕ, Bool, true, false, List, [], ◌∷◌, ◌++◌, length, take}
use Rattle.std.specs.Prelude.{drop}
use Rattle.std.specs.Char.{encode_utf8, is_ascii_digit}
use Rattle.std.specs.List.{list_all}
use Rattle.std.specs.Str.Parse.{digits_value}
use Rattle.semver_core.specs.Failures.{NoValue}
use Rattle.semver_core.specs.Text.Characters.{begins}
use Rattle.semver_core.specs.Text.Parsing.{Parses}
use Rattle.semver_core.specs.Text.VersionText.{Reads}
use Rattle.semver_core.specs.Values.Versions.{VersionValue}
use Rattle.semver_core.specs.declared.TheConstants.{MAX_LENGTH}
use Rattle.nodejs_semver.specs.declared.diagnosis.versions.Expected.{Expected}
use Rattle.nodejs_semver.specs.declared.diagnosis.versions.Expected.TheVariants.{Digit, Dot}
use Rattle.nodejs_semver.specs.declared.diagnosis.versions.VersionFlaw.{VersionFlaw}
use Rattle.nodejs_semver.specs.declared.diagnosis.versions.VersionFlaw.TheVariants as Flaw

-- the whole text is one version, which `parse` returns
abbrev pub IsExact : ℕ → List ℕ → Type 0
IsExact limit text = (v : VersionValue) × (p : Parses limit text v) × (p.reads.rest ≡ [])

-- some text that is a version as a whole, whatever its length, begins with these bytes
abbrev pub IsFront : ℕ → List ℕ → Type 0
IsFront limit front = (x : List ℕ) × ((v : VersionValue) × (r : Reads limit (front ++ x) v) × (r.rest ≡ []))

abbrev pub is_expected : Expected → ℕ → Bool
is_expected what c = elim what [ Digit ↦ is_ascii_digit c | Dot ↦ c == 46 ]

-- with each digit, or with the dot, at this place the bytes before it go on to a version text. With the
-- character that stands there, which is no digit, they don't, whatever follows; and the text itself has no
-- version, which at its end is all there is to say. Where a dot is right, as behind a number, a dot is
-- expected.
pub record IsExpectedAt (limit : ℕ) (text : List ℕ) (what : Expected) (at : ℕ) : Type 0 where
  pub inside : at ≤ length text
  pub right : (c : ℕ) → is_expected what c ≡ true → IsFront limit (take at text ++ c ∷ [])
  pub apart : begins is_ascii_digit (drop at text) ≡ false
  pub wrong : (c : ℕ) (rest other : List ℕ) → drop at text ≡ encode_utf8 c ++ rest
      → NoValue (Reads limit (take at text ++ (encode_utf8 c ++ other)))
  pub none : NoValue (Reads limit text)
  pub dot : IsFront limit (take at text ++ 46 ∷ []) → is_expected what 46 ≡ true

-- a number is right at this place, and no dot, and no digit stands before it; but the run of digits that
-- begins there is of a value above the limit, and with it the bytes before go on to no version text
pub record IsGreatAt (limit : ℕ) (text : List ℕ) (at : ℕ) : Type 0 where
  pub inside : at ≤ length text
  pub right : (c : ℕ) → is_ascii_digit c ≡ true → IsFront limit (take at text ++ c ∷ [])
  pub great : (run rest : List ℕ) × (drop at text ≡ run ++ rest) × (list_all is_ascii_digit run ≡ true)
      × (begins is_ascii_digit rest ≡ false) × (limit < digits_value 10 run)
  pub wrong : IsFront limit (take at text ++ great.0) → ⊥
  pub none : NoValue (Reads limit text)
  pub no_dot : IsFront limit (take at text ++ 46 ∷ []) → ⊥
  pub begun : (front : List ℕ) (c : ℕ) → take at text ≡ front ++ c ∷ [] → is_ascii_digit c ≡ false

-- this is the flaw of a text; one is that a version ends at a place, and more follows it
abbrev pub IsFlaw : ℕ → List ℕ → VersionFlaw → Type 0
IsFlaw limit text Flaw.TooLong = MAX_LENGTH < length text
IsFlaw limit text (Flaw.NumberTooGreat at) = (length text ≤ MAX_LENGTH) × IsGreatAt limit text at
IsFlaw limit text (Flaw.Expected what at) = (length text ≤ MAX_LENGTH) × IsExpectedAt limit text what at
IsFlaw limit text (Flaw.Ignored at) = (v : VersionValue) × (p : Parses limit text v)
    × (p.reads.rest ≡ drop at text) × (at < length text)
