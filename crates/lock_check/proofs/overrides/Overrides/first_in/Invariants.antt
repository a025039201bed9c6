use Rattle.std.proofs.Common.{◌≡◌, ◌<◌, Some, ℕ}
use Rattle.std.specs.Prelude.{slice_get}
use Rattle.lock_check.specs.Internal.Overriding.{IsMiss}
use Rattle.lock_check.specs.declared.overrides.Rule.{Rule}
use Rattle.lock_check.proofs.overrides.Overrides.first_in.Given as goal

abbrev pub invariant-loop-number : goal.invariant-loop-number
invariant-loop-number l = (i : ℕ) (r : Rule) → i < l.number → slice_get l.self.rules.items i ≡ Some r
    → IsMiss l.scope l.dependency r
