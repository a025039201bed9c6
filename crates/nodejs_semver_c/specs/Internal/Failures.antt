-- For proofs. What is seen of a text that is read as no range, and of an increment that returns no version, although memory is missing.
use Rattle.std.specs.Prelude.{◌≡◌, ◌⊎◌, Bool, ℕ, List, IfErr, IfOk, MatchOption, Option, Result, codes}
use Rattle.semver_core.specs.declared.error.Failure.{Failure}
use Rattle.semver_core.specs.declared.error.Failure.TheVariants.{Refused, Memory}
use Rattle.semver_core.specs.Increments.Table.{Fault, InvalidIncrementArgument, Overflow}
use Rattle.semver_core.specs.Values.Versions.{VersionValue}
use Rattle.nodejs_semver_c.specs.Numbers.{fault_number}
use Rattle.nodejs_semver_c.specs.Readings.{IsWide, SpellsNoRange}
use Rattle.nodejs_semver_c.specs.declared.read.Grammar.{Grammar}

-- a text is read as no range, for this failure
abbrev pub IsFailure : {E : Type 0} → Grammar → Bool → List ℕ → Failure E → Type 0
IsFailure by include text (Refused e) = SpellsNoRange by include text
IsFailure by include text (Memory e) = IsWide by text

-- what is seen only when a number rises, or when the identifier is compared to the list
abbrev pub IsLate : Fault → Type 0
IsLate fault = (fault ≡ Overflow)
    ⊎ (fault ≡ InvalidIncrementArgument (codes "identifier already exists"))

-- the increment is rejected with this status, or only for what is seen late
abbrev pub IsMisuse : Result VersionValue Fault → Option ℕ → Type 0
IsMisuse answer told = MatchOption told (IfErr answer IsLate)
    (λ status. IfOk answer (λ v. ⊥) × IfErr answer (λ fault. status ≡ fault_number fault))
