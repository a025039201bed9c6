-- Statement. The numbers that stand for orders, kinds of difference, bases and errors.
use Rattle.std.specs.Prelude.{◌==◌, if◌then◌else◌, Bool, ℕ, ℤ, pos, negsuc, Option, Some, None}
use Rattle.std.specs.declared.cmp.Ordering.{Ordering}
use Rattle.std.specs.declared.cmp.Ordering.TheVariants.{Less, Equal, Greater}
use Rattle.semver_core.specs.Increments.Table as increment
use Rattle.semver_core.specs.declared.difference.VersionDiff.{VersionDiff}
use Rattle.semver_core.specs.declared.difference.VersionDiff.TheVariants.{Major, Minor, Patch, PreMajor}
use Rattle.semver_core.specs.declared.difference.VersionDiff.TheVariants.{PreMinor, PrePatch, PreRelease}
use Rattle.semver_core.specs.declared.increment.IdentifierBase.{IdentifierBase}
use Rattle.semver_core.specs.declared.increment.IdentifierBase.TheVariants.{False, Value}
use Rattle.nodejs_semver.specs.declared.range.outside.OutsideDirection.{OutsideDirection}
use Rattle.nodejs_semver.specs.declared.range.outside.OutsideDirection.TheVariants.{Higher, Lower}
use Rattle.nodejs_semver.specs.declared.diagnosis.versions.Expected.TheVariants.{Digit, Dot}
use Rattle.nodejs_semver.specs.declared.diagnosis.versions.VersionFlaw.{VersionFlaw}
use Rattle.nodejs_semver.specs.declared.diagnosis.versions.VersionFlaw.TheVariants as Flaw
use Rattle.semver_core.specs.declared.TheConstants.{MAX_LENGTH}
use Rattle.nodejs_semver_c.specs.declared.TheConstants.{FLAW_DIGIT, FLAW_DOT, FLAW_IGNORED, FLAW_NUMBER}
use Rattle.nodejs_semver_c.specs.declared.TheConstants.{FLAW_TOO_LONG, OVERFLOW}
use Rattle.nodejs_semver_c.specs.declared.TheConstants.{BAD_ARGUMENT, BAD_IDENTIFIER, NOT_A_PRERELEASE}
use Rattle.nodejs_semver_c.specs.declared.TheConstants.{BASE_NONE, BASE_ONE, BASE_ZERO, KIND_PRERELEASE}
use Rattle.nodejs_semver_c.specs.declared.TheConstants.{KIND_MAJOR, KIND_MINOR, KIND_NONE, KIND_PATCH}
use Rattle.nodejs_semver_c.specs.declared.TheConstants.{KIND_PREMAJOR, KIND_PREMINOR, KIND_PREPATCH}

abbrev pub order_number : Ordering → ℤ
order_number Less = negsuc 0
order_number Equal = pos 0
order_number Greater = pos 1

abbrev pub kind_number : Option VersionDiff → ℕ
kind_number None = KIND_NONE
kind_number (Some Major) = KIND_MAJOR
kind_number (Some Minor) = KIND_MINOR
kind_number (Some Patch) = KIND_PATCH
kind_number (Some PreMajor) = KIND_PREMAJOR
kind_number (Some PreMinor) = KIND_PREMINOR
kind_number (Some PrePatch) = KIND_PREPATCH
kind_number (Some PreRelease) = KIND_PRERELEASE

-- the side that a flag names
abbrev pub side_of : Bool → OutsideDirection
side_of above = if above then Higher else Lower

-- the base that a number stands for, if there is one
abbrev pub base_of : ℕ → Option IdentifierBase
base_of n = if n == BASE_ZERO then Some (Value 0) else if n == BASE_ONE then Some (Value 1)
    else if n == BASE_NONE then Some False else None

-- the status of an error
abbrev pub fault_number : increment.Fault → ℕ
fault_number (increment.InvalidIncrementArgument text) = BAD_ARGUMENT
fault_number (increment.InvalidIdentifier text) = BAD_IDENTIFIER
fault_number (increment.NotAPrerelease text) = NOT_A_PRERELEASE
fault_number increment.Overflow = OVERFLOW

-- the kind of a flaw and its place, which for a text that is too long is the limit
abbrev pub flaw_number : VersionFlaw → ℕ
flaw_number Flaw.TooLong = FLAW_TOO_LONG
flaw_number (Flaw.NumberTooGreat at) = FLAW_NUMBER
flaw_number (Flaw.Expected Digit at) = FLAW_DIGIT
flaw_number (Flaw.Expected Dot at) = FLAW_DOT
flaw_number (Flaw.Ignored at) = FLAW_IGNORED

abbrev pub flaw_place : VersionFlaw → ℕ
flaw_place Flaw.TooLong = MAX_LENGTH
flaw_place (Flaw.NumberTooGreat at) = at
flaw_place (Flaw.Expected what at) = at
flaw_place (Flaw.Ignored at) = at
