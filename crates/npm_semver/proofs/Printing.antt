-- What a loop has written of a list of identifiers.
use Rattle.std.proofs.Common.{◌≡◌, ◌∷◌, ◌++◌, ◌∙◌, ℕ, List, [], ap, append-nil, append_assoc, refl}
use Rattle.semver_core.specs.Printing.Text.{id_text, marked_list}
use Rattle.semver_core.specs.Text.Identifiers.{Id}

-- a marked list is its first identifier, and the others with a dot before each
marked_first : (mark : List ℕ) (x : Id) (xs : List Id) → mark ++ (id_text x ++ marked_list (46 ∷ []) xs) ≡ marked_list mark (x ∷ xs)
marked_first mark x [] = ap (λ l. mark ++ l) (append-nil (id_text x))
marked_first mark x (y ∷ ys) = refl

-- after one more identifier, and the mark before it
pub marked_step : (so_far all mark : List ℕ) (ids rest : List Id) (x : Id) → ids ≡ x ∷ rest → so_far ++ marked_list mark ids ≡ all
    → (so_far ++ (mark ++ id_text x)) ++ marked_list (46 ∷ []) rest ≡ all
marked_step so_far all mark ids rest x e h = append_assoc so_far (mark ++ id_text x) (marked_list (46 ∷ []) rest)
    ∙ ap (λ l. so_far ++ l) (append_assoc mark (id_text x) (marked_list (46 ∷ []) rest) ∙ marked_first mark x rest) ∙ rw e at h
