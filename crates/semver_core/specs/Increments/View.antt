-- Statement. What `inc` returns, in the words of its table.
use Rattle.std.specs.Prelude.{◌≡◌, Result, Ok, Err, ⊤, string_bytes}
use Rattle.semver_core.specs.Increments.Table as spec
use Rattle.semver_core.specs.Increments.Table.{Fault}
use Rattle.semver_core.specs.declared.error.Failure.{Failure}
use Rattle.semver_core.specs.declared.error.Failure.TheVariants.{Refused, Memory}
use Rattle.semver_core.specs.declared.increment.IncrementError.{IncrementError}
use Rattle.semver_core.specs.declared.increment.IncrementError.TheVariants as variant

-- the error as the table names it
abbrev pub fault_of : IncrementError → Fault
fault_of (variant.InvalidIdentifier text) = spec.InvalidIdentifier (string_bytes text)
fault_of (variant.InvalidIncrementArgument text) = spec.InvalidIncrementArgument (string_bytes text)
fault_of (variant.NotAPrerelease text) = spec.NotAPrerelease (string_bytes text)
fault_of variant.Overflow = spec.Overflow

-- the call returns this value or this error, unless an allocation fails
abbrev pub Returns : {A : Type 0} → Result A Fault → Result A (Failure IncrementError) → Type 0
Returns expected (Ok value) = expected ≡ Ok value
Returns expected (Err (Refused e)) = expected ≡ Err (fault_of e)
Returns expected (Err (Memory e)) = ⊤
