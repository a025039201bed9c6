use Rattle.std.proofs.Common.{◌≡◌, None, Option, Some, false, is_some, refl}
use Rattle.std.specs.Prelude.{◌↔◌}
use Rattle.semver_core.specs.Failures.{NoValue}
use Rattle.nodejs_semver_c.proofs.read.Grammar.rejects.Goals as goal

-- where there is no flaw, there are alternatives
with : {A B : Type 0} (r : Option A) (P : B → Type 0) → (r ≡ None) ↔ ((b : B) × P b) → is_some r ≡ false → NoValue P → ⊥
with None P h left refused = let (b, p) = h.0 refl in absurd (refused b p)
with (Some a) P h left refused = cc

pub returns-in-Npm-false-clause-none : goal.returns-in-Npm-false-clause-none
returns-in-Npm-false-clause-none c = λ wide left. let strict = rw c.in-Npm-false.loose-test at c.in-Npm-false.is in
    rw strict (rw strict at wide, with _ _ c.range_flaw.ensures.none (rw c.is_some.ensures at left))
