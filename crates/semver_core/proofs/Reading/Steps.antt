-- The steps of a reading, each of which may fail.
use Rattle.std.proofs.Common.{None, Option, Some, inl, inr, refl, ◌≡◌, ◌⊎◌}

pub option-cases : {A : Type 0} (o : Option A) → (o ≡ None) ⊎ (x : A) × (o ≡ Some x)
option-cases None = inl refl
option-cases (Some x) = inr (x, refl)
