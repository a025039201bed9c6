-- A version is made or copied without memory where it has no identifiers, or the pre-release 0 alone.
use Rattle.semver_core.proofs.Common.{AlphaNumeric, Id, Numeric, VersionValue, HasIdentifiers, List, [], arith, inl, inr, refl}
use Rattle.semver_core.proofs.Common.{true, ◌∷◌, ◌≡◌, nat_tests, cases_Bool, eqb-true, ◌==◌, Result}
use Rattle.{semver_core.specs.Values.Memory.takes_memory, std.specs.Prelude.{IsOk, OnErr}}

taken : (v : VersionValue) (pre build : List Id) → v.pre_release ≡ pre → v.build ≡ build → HasIdentifiers v
    → (v.pre_release ≡ Numeric 0 ∷ [] → v.build ≡ [] → ⊥) → takes_memory v ≡ true
taken v [] [] e f h none = grind (arith, h)
taken v [] (y ∷ ys) e f h none = rw (e, f) refl
taken v (AlphaNumeric t ∷ xs) build e f h none = rw e refl
taken v (Numeric n ∷ x ∷ xs) build e f h none = rw e (grind (arith, nat_tests))
taken v (Numeric n ∷ []) (y ∷ ys) e f h none = rw f (grind arith)
taken v (Numeric n ∷ []) [] e f h none = elim (cases_Bool (n == 0)) [
  | inl z ↦ let zero : n ≡ 0 = eqb-true n 0 z in absurd (none (rw zero at e) f)
  | inr o ↦ rw e (grind (arith, nat_tests, o))
]

pub taking : {A E : Type 0} (v : VersionValue) (r : Result A E) → OnErr r (HasIdentifiers v)
    → (v.pre_release ≡ Numeric 0 ∷ [] → v.build ≡ [] → IsOk r) → OnErr r (takes_memory v ≡ true)
taking v r h none = grind (arith, taken v v.pre_release v.build refl refl)
