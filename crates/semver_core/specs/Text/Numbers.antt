-- Statement: numbers in versions and ranges.
use Rattle.std.specs.Prelude.{◌≡◌, ◌++◌, ◌<◌, ◌≤◌, ℕ, true, false, List, codes, length}
use Rattle.std.specs.Char.{is_ascii_digit}
use Rattle.std.specs.List.{list_all}
use Rattle.std.specs.Str.Parse.{digits_value}
use Rattle.semver_core.specs.Text.Characters.{begins}

-- a number: digits, leading zeros allowed, of a value up to the limit
pub record IsNumber (limit : ℕ) (digits : List ℕ) (n : ℕ) : Type 0 where
  pub some : 0 < length digits
  pub each : list_all is_ascii_digit digits ≡ true
  pub value : n ≡ digits_value 10 digits
  pub safe : n ≤ limit

-- no digit follows the number, so that its digits are a whole run
pub record IsWholeNumber (limit : ℕ) (digits rest : List ℕ) (n : ℕ) : Type 0 where
  pub number : IsNumber limit digits n
  pub ended : begins is_ascii_digit rest ≡ false

-- the text begins with three numbers joined by dots, and this follows them
pub record IsTriple (limit : ℕ) (text : List ℕ) (M m p : ℕ) (rest : List ℕ) : Type 0 where
  pub major : List ℕ
  pub minor : List ℕ
  pub patch : List ℕ
  pub divided : text ≡ major ++ (codes "." ++ (minor ++ (codes "." ++ (patch ++ rest))))
  pub major_is : IsNumber limit major M
  pub minor_is : IsNumber limit minor m
  pub patch_is : IsWholeNumber limit patch rest p
