-- For proofs and private contracts. What the pieces of the readers give, seen without places in memory.
use Rattle.std.specs.Borrow.{Bor}
use Rattle.std.specs.Prelude.{List, None, Option, Some, ℕ}

abbrev pub pair_view : Bor (List ℕ) × Bor (List ℕ) → List ℕ × List ℕ
pair_view p = (p.0.now, p.1.now)

abbrev pub rest_view : Option (Bor (List ℕ)) → Option (List ℕ)
rest_view None = None
rest_view (Some t) = Some t.now

abbrev pub part_view : Bor (List ℕ) × Option (Bor (List ℕ)) → List ℕ × Option (List ℕ)
part_view p = (p.0.now, rest_view p.1)
