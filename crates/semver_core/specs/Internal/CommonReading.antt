-- For proofs and private contracts: what the fast reader finds, as a function. It is proved to be
-- what the statement of common texts says.
use Rattle.std.specs.Prelude.{ℕ, Bool, ◌+◌, ◌*◌, ◌^◌, ◌&&◌, ◌||◌, nat_lt, ◌==◌, if◌then◌else◌, List, [], ◌∷◌, Option, Some, None, drop}
use Rattle.std.specs.Char.{is_ascii_digit, digit_value}
use Rattle.std.specs.List.{prefix_len}
use Rattle.semver_core.specs.Text.Characters.{is_identifier_char}
use Rattle.semver_core.specs.Text.Identifiers.{Id, Numeric, AlphaNumeric}
use Rattle.semver_core.specs.Internal.Reading.{◌>>?◌, triple_at, pre_release_at, build_at, qualified}
use Rattle.semver_core.specs.Values.Versions.{VersionValue}

-- how many bytes a small `v` at the front takes
abbrev pub small_len : List ℕ → ℕ
small_len [] = 0
small_len (c ∷ rest) = if c == 118 then 1 else 0

-- the value, where nothing is left
abbrev pub at_end : {A : Type 0} → List ℕ → A → Option A
at_end [] x = Some x
at_end (c ∷ rest) x = None

-- the version of three numbers with the qualifier behind them, where that goes to the end
abbrev pub whole_at : List ℕ → ℕ × ℕ × ℕ × ℕ → Option VersionValue
whole_at text t =
    at_end (drop (build_at text (pre_release_at text t.3).1).1 text) (qualified text t)

-- the version that the whole text is
abbrev pub common_of : ℕ → List ℕ → Option VersionValue
common_of limit text = triple_at limit text (small_len text) >>? λ t. whole_at text t

-- what a common text is made of: characters of identifiers, `.` and `+`
abbrev pub is_plain : ℕ → Bool
is_plain c = is_identifier_char c || (c == 46 || c == 43)

-- the number that digits write so far, with one byte more; none where one is no digit, or the
-- number does not fit 64 bits
abbrev pub grown : Option ℕ → ℕ → Option ℕ
grown None b = None
grown (Some v) b = if is_ascii_digit b && nat_lt (v * 10 + digit_value b) (2 ^ 64)
    then Some (v * 10 + digit_value b) else None

-- where the run at the front of a text ends, and the number that it writes
unfoldable pub run_from : Option ℕ → ℕ → List ℕ → ℕ × Option ℕ
run_from number at [] = (at, number)
run_from number at (c ∷ rest) = if is_identifier_char c
    then run_from (grown number c) (at + 1) rest else (at, number)

-- how long the run at the front of a text is
abbrev pub run_len : List ℕ → ℕ
run_len text = prefix_len is_identifier_char text

-- the number that a run writes
unfoldable pub number_of_run : Option ℕ → List ℕ → Option ℕ
number_of_run number [] = number
number_of_run number (c ∷ run) = number_of_run (grown number c) run

-- the identifier by the number that its run writes
abbrev pub id_by : Option ℕ → List ℕ → Id
id_by None run = AlphaNumeric run
id_by (Some n) run = Numeric n
