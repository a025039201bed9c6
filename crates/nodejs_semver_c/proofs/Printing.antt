-- What loops have put of lists that print element by element.
use Rattle.std.proofs.Common.{◌≡◌, ◌<◌, ◌+◌, ◌∷◌, ◌++◌, ◌∙◌, ℕ, List, [], ap, append-nil, append_assoc, arith, codes, get_or}
use Rattle.std.proofs.Common.{length, sym, take}
use Rattle.std.proofs.lemmas.Grind.{flat_map-append}
use Rattle.std.proofs.lemmas.List.{take_more}
use Rattle.std.specs.List.{join_by}

-- what stands before the next element: nothing, and after the first one two bars
abbrev pub bars_after : {A : Type 0} → List A → List ℕ
bars_after [] = []
bars_after (s ∷ rest) = codes "||"

taken : {A : Type 0} (xs : List A) (i : ℕ) (x : A) → i < length xs → x ≡ get_or xs i x → take (i + 1) xs ≡ take i xs ++ x ∷ []
taken xs i x lt is = take_more xs i x lt ∙ ap (λ y. take i xs ++ y ∷ []) (sym is)

pub bars_step : {A : Type 0} (xs : List A) (i : ℕ) (x : A) → i < length xs → x ≡ get_or xs i x → codes "||" ≡ bars_after (take (i + 1) xs)
bars_step xs i x lt is = grind (arith, taken)

joined_push : {A : Type 0} (text : A → List ℕ) (xs : List A) (x : A)
    → join_by text (codes "||") (xs ++ x ∷ []) ≡ join_by text (codes "||") xs ++ (bars_after xs ++ text x)
joined_push text xs x = grind (arith, append-nil, flat_map-append, append_assoc)

-- after one more element, and what stands before it
pub joined_step : {A : Type 0} (text : A → List ℕ) (xs : List A) (i : ℕ) (bars : List ℕ) (x : A) → i < length xs
    → bars ≡ bars_after (take i xs) → x ≡ get_or xs i x
    → join_by text (codes "||") (take i xs) ++ (bars ++ text x) ≡ join_by text (codes "||") (take (i + 1) xs)
joined_step text xs i bars x lt e is = ap (λ s. join_by text (codes "||") (take i xs) ++ (s ++ text x)) e
    ∙ sym (ap (join_by text (codes "||")) (taken xs i x lt is) ∙ joined_push text (take i xs) x)
