-- Statement. When a call that may reject its input, or fail to allocate, returns one of these two errors.
use Rattle.std.specs.Prelude.{⊤, Result, Err}
use Rattle.semver_core.specs.declared.error.Failure.{Failure}
use Rattle.semver_core.specs.declared.error.Failure.TheVariants.{Refused, Memory}

-- the call rejects its input only if this holds
abbrev pub RefusedOnlyIf : {A E : Type 0} → Result A (Failure E) → Type 0 → Type 0
RefusedOnlyIf (Err (Refused e)) P = P
RefusedOnlyIf _ P = ⊤

-- an allocation fails only if this holds
abbrev pub MemoryOnlyIf : {A E : Type 0} → Result A (Failure E) → Type 0 → Type 0
MemoryOnlyIf (Err (Memory e)) P = P
MemoryOnlyIf _ P = ⊤

-- no value is so
abbrev pub NoValue : {A : Type 0} → (A → Type 0) → Type 0
NoValue {A} Is = (value : A) → Is value → ⊥
