-- Where paths lead.
use Rattle.std.proofs.Common.{◌≡◌, ◌≢◌, ◌∷◌, ◌++◌, ◌∙◌, [], ap, codes, false, map, refl, reverse, sym, List, ℕ}
use Rattle.std.proofs.lemmas.Bool.{false_from_ne_true}
use Rattle.std.proofs.lemmas.List.{append-nil, map-append, reverse-append, reverse-reverse}
use Rattle.std.proofs.lemmas.Slice.Eq.{bytes_eq-Decides}
use Rattle.std.specs.Borrow.{Bor}
use Rattle.std.specs.List.{join_by, join_with_byte}
use Rattle.std.specs.Prelude.{bytes_eq}
use Rattle.lock_files.specs.Internal.Places.{place_of}
use Rattle.lock_files.specs.Paths.{next_place}

-- texts that are joined by a slash
pub joined-slash : (xs : List (Bor (List ℕ))) → join_by (λ x. x.now) (47 ∷ []) xs ≡ join_with_byte 47 (map (λ x. x.now) xs)
joined-slash [] = refl
joined-slash (x ∷ []) = append-nil x.now
joined-slash (x ∷ y ∷ more) = ap (λ t. x.now ++ 47 ∷ t) (joined-slash (y ∷ more))

other : (a b : List ℕ) → a ≢ b → bytes_eq a b ≡ false
other a b none = false_from_ne_true (bytes_eq a b) (λ same. none ((bytes_eq-Decides a b).0 same))

-- a part that goes down
pub next_place-down : (place : List (List ℕ)) (part : List ℕ) → part ≢ [] → part ≢ codes "." → part ≢ codes ".."
    → next_place place part ≡ part ∷ place
next_place-down place part filled down inside =
    let one = other part [] filled in
    let two = other part (codes ".") down in
    let three = other part (codes "..") inside in
    rw one (rw two (rw three refl))

pub place_of-push : (parts : List (Bor (List ℕ))) (part : Bor (List ℕ))
    → place_of (parts ++ part ∷ []) ≡ part.now ∷ place_of parts
place_of-push parts part =
    ap reverse (map-append (λ p. p.now) parts (part ∷ []))
    ∙ reverse-append (map (λ p. p.now) parts) (part.now ∷ [])

-- the parts of a place, in the order of the folder
pub way-back : (parts : List (Bor (List ℕ))) (place : List (List ℕ)) → place_of parts ≡ place
    → map (λ p. p.now) parts ≡ reverse place
way-back parts place is = sym (reverse-reverse (map (λ p. p.now) parts)) ∙ ap reverse is
