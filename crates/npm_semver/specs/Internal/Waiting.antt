-- For proofs. The words that are left, with the part that waits behind a `=`.
use Rattle.std.specs.Prelude.{◌∷◌, ℕ, List, Option, Some, None}
use Rattle.std.specs.Borrow.{Bor}

abbrev pub waiting : Option (Bor (List ℕ)) → List (List ℕ) → List (List ℕ)
waiting (Some value) rest = value.now ∷ rest
waiting None rest = rest
