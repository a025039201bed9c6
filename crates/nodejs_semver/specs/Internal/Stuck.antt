-- For proofs and private contracts: where the reader of numbers stops.
use Rattle.std.specs.Prelude.{◌≡◌, ◌==◌, ◌+◌, ◌<◌, ◌≤◌, ℕ, suc, Bool, true, false, List, [], ◌++◌, drop, length}
use Rattle.std.specs.Char.{is_ascii_digit}
use Rattle.std.specs.List.{list_all}
use Rattle.std.specs.Str.Parse.{digits_value}
use Rattle.semver_core.specs.Text.Characters.{begins, IsPieceAt}
use Rattle.semver_core.specs.Text.Numbers.{IsWholeNumber}
use Rattle.semver_core.specs.Text.VersionText.{Reads}
use Rattle.semver_core.specs.Values.Versions.{VersionValue}
use Rattle.nodejs_semver.specs.declared.diagnosis.versions.Expected.TheVariants.{Digit, Dot}
use Rattle.nodejs_semver.specs.declared.diagnosis.versions.VersionFlaw.{VersionFlaw}
use Rattle.nodejs_semver.specs.declared.diagnosis.versions.VersionFlaw.TheVariants as Flaw

-- a number stands between two places
pub record IsNumberAt (limit : ℕ) (text : List ℕ) (at end : ℕ) : Type 0 where
  pub n : ℕ
  pub piece : IsPieceAt (λ digits rest. IsWholeNumber limit digits rest n) text at end
  pub inside : end ≤ length text

-- a run of digits of a value above the limit
abbrev pub BeginsGreat : ℕ → List ℕ → Type 0
BeginsGreat limit text = (run rest : List ℕ) × (text ≡ run ++ rest) × (list_all is_ascii_digit run ≡ true)
    × (begins is_ascii_digit rest ≡ false) × (limit < digits_value 10 run)

-- the text is a version as a whole, whatever its length
abbrev pub IsWhole : ℕ → List ℕ → Type 0
IsWhole limit text = (v : VersionValue) × (r : Reads limit text v) × (r.rest ≡ [])

abbrev pub begins_dot : List ℕ → Bool
begins_dot text = begins (λ b. b == 46) text

-- where a number is right, and so many more with a dot before each, the reader stops with this flaw
pub data Stuck (limit : ℕ) (text : List ℕ) : ℕ → ℕ → VersionFlaw → Type 0 where
  at_great : (k at : ℕ) → BeginsGreat limit (drop at text) → Stuck limit text k at (Flaw.NumberTooGreat at)
  at_digit : (k at : ℕ) → begins is_ascii_digit (drop at text) ≡ false → Stuck limit text k at (Flaw.Expected Digit at)
  at_dot : (k at end : ℕ) → IsNumberAt limit text at end → begins_dot (drop end text) ≡ false
      → Stuck limit text (suc k) at (Flaw.Expected Dot end)
  later : (k at end : ℕ) (flaw : VersionFlaw) → IsNumberAt limit text at end → begins_dot (drop end text) ≡ true
      → Stuck limit text k (end + 1) flaw → Stuck limit text (suc k) at flaw
