-- When an allocation may fail in `inc`.
use Rattle.semver_core.proofs.Common.{arith, Err, Failure, Fault, IfOk, IncrementError, MemoryOnlyIf, Overflow}
use Rattle.semver_core.proofs.Common.{Result, VersionValue, ◌≢◌}
use Rattle.semver_core.specs.Internal.IncrementSteps.{IsAnswer}

-- in the words of the public clauses
pub answered : (P : VersionValue → Type 0) (answer : Result VersionValue Fault) (r : Result VersionValue (Failure IncrementError))
    → IsAnswer answer r → MemoryOnlyIf r ((answer ≢ Err Overflow) × IfOk answer P)
answered P answer r h = grind arith
