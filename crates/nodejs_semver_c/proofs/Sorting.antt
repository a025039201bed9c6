-- Versions with their places, as more of them are read, and their places, as more of them are told.
use Rattle.std.proofs.Common.{◌≡◌, ◌+◌, ◌<◌, ◌≤◌, ◌∷◌, ◌++◌, ◌∙◌, ℕ, List, [], Bor, IsPermutation, IsSorted, ap, arith, drop}
use Rattle.std.proofs.Common.{get_or, length, length-append, map, nat_cmp, refl, set, suc, take, zip}
use Rattle.std.proofs.lemmas.List.{length-map, length-take-le, map-append, take_more}
use Rattle.std.proofs.lemmas.List.Sorted.{length_permutation}
use Rattle.std.specs.List.{AllZip, range_with_len}
use Rattle.std.specs.Ordering.{ordering_then}
use Rattle.semver_core.specs.Values.Order.{precedence}
use Rattle.semver_core.specs.Values.Versions.{VersionValue}
use Rattle.nodejs_semver_c.specs.Lists.{AreVersionsOf, TellsOrder, placed}
use Rattle.nodejs_semver_c.proofs.Places.{filled}

placed_from : (start : ℕ) (vs : List VersionValue) (v : VersionValue) → zip (vs ++ v ∷ []) (range_with_len start (suc (length vs)))
    ≡ zip vs (range_with_len start (length vs)) ++ (v, start + length vs) ∷ []
placed_from start [] v = let e : start ≡ start + 0 = omega arith in ap (λ n. (v, n) ∷ []) e
placed_from start (u ∷ us) v =
    let e : start + 1 + length us ≡ start + suc (length us) = omega arith in
    ap (λ l. (u, start) ∷ l) (rw e at (placed_from (start + 1) us v))

pub placed_more : (vs : List VersionValue) (v : VersionValue) → placed (vs ++ v ∷ []) ≡ placed vs ++ (v, length vs) ∷ []
placed_more vs v =
    let e : length (vs ++ v ∷ []) ≡ suc (length vs) = omega (arith, length-append vs (v ∷ [])) in
    let z : 0 + length vs ≡ length vs = omega arith in
    rw e (rw z at (placed_from 0 vs v))

placed_length : (start : ℕ) (vs : List VersionValue) → length (zip vs (range_with_len start (length vs))) ≡ length vs
placed_length start [] = refl
placed_length start (v ∷ vs) = ap suc (placed_length (start + 1) vs)

AllZip-length : {A B : Type 0} (R : A → B → Type 0) (xs : List A) (ys : List B) → AllZip R xs ys → length ys ≡ length xs
AllZip-length R [] [] h = refl
AllZip-length R (x ∷ xs) (y ∷ ys) h = ap suc (AllZip-length R xs ys h.1)
AllZip-length R xs ys h = absurd h

pub sorted_length : (reading : ℕ) (texts : List (Bor (List ℕ))) (vs : List VersionValue) (all sorted : List (VersionValue × ℕ))
    → AreVersionsOf reading texts vs → all ≡ placed vs → IsPermutation all sorted → length sorted ≡ length texts
sorted_length reading texts vs all sorted read e moved = length_permutation all sorted moved
    ∙ (ap length e ∙ (placed_length 0 vs ∙ AllZip-length _ texts vs read))

pub places_more : (all : List (VersionValue × ℕ)) (order old : List ℕ) (at : ℕ) (d : VersionValue × ℕ) → at < length all
    → length all ≤ length old → order ≡ map (λ p. p.1) (take at all) ++ drop at old
    → set order at (get_or all at d).1 ≡ map (λ p. p.1) (take (at + 1) all) ++ drop (at + 1) old
places_more all order old at d lt le e =
    let short : at ≤ length all = omega (arith, lt) in
    let counted : length (map (λ p. p.1) (take at all)) ≡ at = grind (arith, length-map, length-take-le at all short) in
    rw (e, take_more all at d lt, map-append (λ p. p.1) (take at all) (get_or all at d ∷ []))
    (filled (map (λ p. p.1) (take at all)) old (get_or all at d).1 0 at counted (omega (arith, lt, le)))

pub tells_order : (reading : ℕ) (texts : List (Bor (List ℕ))) (vs : List VersionValue) (all sorted : List (VersionValue × ℕ))
    (order old : List ℕ) → AreVersionsOf reading texts vs → all ≡ placed vs → IsPermutation all sorted
    → IsSorted (λ a b. ordering_then (precedence a.0 b.0) (nat_cmp a.1 b.1)) sorted
    → order ≡ map (λ p. p.1) sorted ++ drop (length sorted) old → TellsOrder reading texts old order
tells_order reading texts vs all sorted order old read e moved up told =
    (vs, read, (sorted, rw e at moved, up, rw (sorted_length reading texts vs all sorted read e moved) at told))
