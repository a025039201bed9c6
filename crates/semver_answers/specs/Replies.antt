-- Statement. What the texts of a question are read as, and what is replied. The texts are read from
-- the left, and the first that is no version, or no range, decides the error.
use Rattle.std.specs.Prelude.{◌≡◌, ◌<◌, ℕ, List, [], length, Option, Result, Ok, Err}
use Rattle.std.specs.List.{AllZip, Any}
use Rattle.semver_core.specs.Failures.{NoValue}
use Rattle.semver_core.specs.Cuts.{Span}
use Rattle.semver_core.specs.Printing.Text.{version_text}
use Rattle.semver_core.specs.Text.Parsing.{Parses}
use Rattle.semver_core.specs.Values.Versions.{VersionValue}
use Rattle.semver_core.specs.declared.TheConstants.{MAX_SAFE_INTEGER}
use Rattle.nodejs_semver.specs.Text.Meaning.{Means}
use Rattle.semver_answers.specs.Names.{fault_word, or_none}
use Rattle.semver_answers.specs.declared.fault.Fault.{Fault}
use Rattle.semver_answers.specs.declared.fault.Fault.TheVariants.{BadVersion, BadRange}

-- a text is read as this version, or as none
abbrev pub IsVersionOf : List ℕ → Result VersionValue Fault → Type 0
IsVersionOf text (Ok v) = Parses MAX_SAFE_INTEGER text v
IsVersionOf text (Err fault) = NoValue (Parses MAX_SAFE_INTEGER text) × (fault ≡ BadVersion)

-- a text is read as this range, or as none
abbrev pub IsRangeOf : List ℕ → Result (List (Span VersionValue)) Fault → Type 0
IsRangeOf text (Ok ss) = Means MAX_SAFE_INTEGER text ss × (0 < length ss)
IsRangeOf text (Err fault) = Means MAX_SAFE_INTEGER text [] × (fault ≡ BadRange)

-- some texts are read as these versions, each as its own, or one of them as none
abbrev pub AreVersionsOf : List (List ℕ) → Result (List VersionValue) Fault → Type 0
AreVersionsOf texts (Ok vs) = AllZip (Parses MAX_SAFE_INTEGER) texts vs
AreVersionsOf texts (Err fault) = Any (λ t. NoValue (Parses MAX_SAFE_INTEGER t)) texts × (fault ≡ BadVersion)

-- a reply about what was read, or the word of the error
pub data On {A : Type 0} (Reads : Result A Fault → Type 0) (Reply : A → List ℕ → Type 0)
    (answer : List ℕ) : Type 0 where
  read : (value : A) → Reads (Ok value) → Reply value answer → On Reads Reply answer
  fault : (why : Fault) → Reads (Err why) → answer ≡ fault_word why → On Reads Reply answer

-- the reply is this text
abbrev pub Says : List ℕ → List ℕ → Type 0
Says text answer = answer ≡ text

-- the reply is the version that is so found, printed, or `none` where none is
abbrev pub SaysFound : (Option VersionValue → Type 0) → List ℕ → Type 0
SaysFound IsFound reply = (found : Option VersionValue) × IsFound found × (reply ≡ or_none version_text found)
