-- Records that a byte ends.
use Rattle.std.proofs.Common.{◌≡◌, ◌==◌, ◌+◌, ◌-◌, ◌<◌, ◌∷◌, [], ℕ, zero, suc, true, false, List, Some, ap, arith, length, refl, slice_get, sym, take}
use Rattle.std.proofs.lemmas.Option.{same_Some, slice_get_within}
use Rattle.std.specs.Borrow.{Bor}
use Rattle.npm_semver.specs.Internal.Asked.{texts}
use Rattle.npm_semver.specs.Internal.Records.{has_empty_end}
use Rattle.npm_semver.specs.Responses.{without_empty_end}

last_at : (xs : List (Bor (List ℕ))) (i : ℕ) (x : Bor (List ℕ)) → i + 1 ≡ length xs → Some x ≡ slice_get xs i
    → (length x.now == 0) ≡ has_empty_end (texts xs)
last_at [] i x last is = absurd (omega (arith, last))
last_at (y ∷ []) zero x last is = ap (λ (t : Bor (List ℕ)). length t.now == 0) (same_Some x y is)
last_at (y ∷ []) (suc i) x last is = absurd (omega (arith, last))
last_at (y ∷ z ∷ zs) zero x last is = absurd (omega (arith, last))
last_at (y ∷ z ∷ zs) (suc i) x last is = last_at (z ∷ zs) i x (omega (arith, last)) is

pub some_end : (xs : List (Bor (List ℕ))) (x : Bor (List ℕ)) → Some x ≡ slice_get xs (length xs - 1) → (length x.now == 0) ≡ has_empty_end (texts xs)
some_end xs x is = last_at xs (length xs - 1) x (omega (arith, slice_get_within xs (length xs - 1) x (sym is))) is

-- a last text that is empty is taken off
dropped : (xs : List (Bor (List ℕ))) (i : ℕ) → i + 1 ≡ length xs → has_empty_end (texts xs) ≡ true → texts (take i xs) ≡ without_empty_end (texts xs)
dropped [] i last empty = absurd (omega (arith, last))
dropped (x ∷ []) zero last empty = rw empty refl
dropped (x ∷ []) (suc i) last empty = absurd (omega (arith, last))
dropped (x ∷ y ∷ ys) zero last empty = absurd (omega (arith, last))
dropped (x ∷ y ∷ ys) (suc i) last empty = ap (λ (l : List (List ℕ)). x.now ∷ l) (dropped (y ∷ ys) i (omega (arith, last)) empty)

some : (xs : List (Bor (List ℕ))) → has_empty_end (texts xs) ≡ true → 0 < length xs
some [] empty = absurd (cc)
some (x ∷ xs) empty = omega arith

pub end_dropped : (xs : List (Bor (List ℕ))) (n : ℕ) → length xs ≡ n → has_empty_end (texts xs) ≡ true
    → texts (take (n - 1) xs) ≡ without_empty_end (texts xs)
end_dropped xs n long empty = dropped xs (n - 1) (omega (arith, long, some xs empty)) empty

-- one that is not stays
pub end_kept : (ts : List (List ℕ)) → has_empty_end ts ≡ false → ts ≡ without_empty_end ts
end_kept [] full = refl
end_kept (t ∷ []) full = rw full refl
end_kept (t ∷ u ∷ us) full = ap (λ (l : List (List ℕ)). t ∷ l) (end_kept (u ∷ us) full)
