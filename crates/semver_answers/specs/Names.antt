-- Statement. The words that a line may hold, and the words that answer it.
use Rattle.std.specs.Prelude.{◌==◌, ℕ, Bool, List, codes, Option, Some, None, Result, Ok, Err, if◌then◌else◌}
use Rattle.std.specs.declared.cmp.Ordering.{Ordering}
use Rattle.std.specs.declared.cmp.Ordering.TheVariants.{Less, Equal, Greater}
use Rattle.semver_core.specs.Increments.Table as increment
use Rattle.semver_core.specs.Printing.Text.{version_text}
use Rattle.semver_core.specs.Values.Versions.{VersionValue}
use Rattle.semver_core.specs.declared.increment.IdentifierBase.{IdentifierBase}
use Rattle.semver_core.specs.declared.increment.IdentifierBase.TheVariants.{False, Value}
use Rattle.semver_answers.specs.declared.fault.Fault.{Fault}
use Rattle.semver_answers.specs.declared.fault.Fault.TheVariants.{BadLine, BadVersion, BadRange}

-- the name of a base, which is `false`, 0 or 1
abbrev pub base_word : IdentifierBase → List ℕ
base_word base = elim base [ False ↦ codes "false" | Value n ↦ if n == 0 then codes "0" else codes "1" ]

-- why a line has no other answer
abbrev pub fault_word : Fault → List ℕ
fault_word why =
    elim why [ BadLine ↦ codes "bad line" | BadVersion ↦ codes "bad version" | BadRange ↦ codes "bad range" ]

-- whether it is so
abbrev pub truth_word : Bool → List ℕ
truth_word is_so = if is_so then codes "true" else codes "false"

-- how the first of two versions compares to the second
abbrev pub order_word : Ordering → List ℕ
order_word o = elim o [ Less ↦ codes "less" | Equal ↦ codes "equal" | Greater ↦ codes "greater" ]

-- a value as this text, where there is one
abbrev pub or_none : {A : Type 0} → (A → List ℕ) → Option A → List ℕ
or_none text found = elim found [ None ↦ codes "none" | Some value ↦ text value ]

-- the next version, printed, or why there is none
abbrev pub next_text : Result VersionValue increment.Fault → List ℕ
next_text (Ok v) = version_text v
next_text (Err (increment.InvalidIncrementArgument text)) = codes "bad argument"
next_text (Err (increment.InvalidIdentifier text)) = codes "bad identifier"
next_text (Err (increment.NotAPrerelease text)) = codes "not a prerelease"
next_text (Err increment.Overflow) = codes "overflow"
