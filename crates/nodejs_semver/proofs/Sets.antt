-- Tests of two sets, and of what both hold and the first alone. Callers may cite these lemmas.
use Rattle.nodejs_semver.proofs.Common.{Bool, IsTrue, arith, not, ◌&&◌, ◌↔◌, ◌≡◌}

pub both_written : {A B : Type 0} (a b c : Bool) → c ≡ (a && b) → IsTrue a ↔ A → IsTrue b ↔ B → IsTrue c ↔ (A × B)
both_written a b c e f g = grind arith

pub first_written : {A B : Type 0} (a b c : Bool) → c ≡ (a && not b) → IsTrue a ↔ A → IsTrue b ↔ B → IsTrue c ↔ (A × (B → ⊥))
first_written a b c e f g = grind arith
