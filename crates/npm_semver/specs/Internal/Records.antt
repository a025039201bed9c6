-- For proofs. The end of the records.
use Rattle.std.specs.Prelude.{◌==◌, ◌∷◌, [], ℕ, Bool, false, List, length}

-- the last text is empty
abbrev pub has_empty_end : List (List ℕ) → Bool
has_empty_end [] = false
has_empty_end (t ∷ []) = length t == 0
has_empty_end (t ∷ u ∷ us) = has_empty_end (u ∷ us)
