-- Statement. The least versions that `inc` returns.
use Rattle.std.specs.Prelude.{◌≡◌, ℕ, true, List, [], Option, Result, Ok, Err, unwrap_or}
use Rattle.std.specs.Ordering.{is_le}
use Rattle.semver_core.specs.Increments.Table.{Fault, Overflow}
use Rattle.semver_core.specs.Values.Order.{precedence}
use Rattle.semver_core.specs.Values.Versions.{VersionValue, IsVersion}
use Rattle.semver_core.specs.declared.increment.IdentifierBase.{IdentifierBase}
use Rattle.semver_core.specs.declared.increment.IdentifierBase.TheVariants.{Value}

-- the value is one of these, and none of these is below it: the least of them
abbrev pub IsLeast : (VersionValue → Type 0) → VersionValue → Type 0
IsLeast These v = These v × ((w : VersionValue) → These w → is_le (precedence v w) ≡ true)

-- the least of these, and a version
abbrev pub IsLeastVersion : (VersionValue → Type 0) → VersionValue → Type 0
IsLeastVersion These v = IsVersion v × IsLeast These v

-- what is returned is the least of these, or Overflow where there is none
abbrev pub IsLeastOrOverflow : (VersionValue → Type 0) → Result VersionValue Fault → Type 0
IsLeastOrOverflow These (Ok v) = IsLeastVersion These v
IsLeastOrOverflow These (Err Overflow) = (w : VersionValue) → IsVersion w → These w → ⊥
IsLeastOrOverflow These (Err _) = ⊥

-- no identifier or an empty one, and the base 0 or none
abbrev pub IsPlain : Option (List ℕ) → Option IdentifierBase → Type 0
IsPlain id base = (unwrap_or id [] ≡ []) × (unwrap_or base (Value 0) ≡ Value 0)
