-- Serves proofs. Whitespace at the front of a text, byte by byte.
use Rattle.semver_core.proofs.Common.{List, [], ap, arith, drop, refl, sym, ℕ, ◌++◌, ◌<◌, ◌∙◌, ◌∷◌, ◌≡◌, after_spaces}
use Rattle.semver_core.proofs.Common.{drop_spaces, space_len, suc, zero}

-- bytes that belong to a whitespace character are skipped
pub after_spaces-drop : (n : ℕ) (text : List ℕ) → after_spaces n text ≡ drop_spaces (drop n text)
unfolding after_spaces
after_spaces-drop zero text = refl
after_spaces-drop (suc n) [] = refl
after_spaces-drop (suc n) (b ∷ rest) = after_spaces-drop n rest

pub space_len-nil : space_len [] ≡ 0
unfolding space_len
space_len-nil = refl

-- one whitespace character more
pub drop_spaces-more : (text : List ℕ) → 0 < space_len text → drop_spaces (drop (space_len text) text) ≡ drop_spaces text
unfolding after_spaces
drop_spaces-more [] h = absurd (omega (arith, space_len-nil))
drop_spaces-more (b ∷ rest) h = go (space_len (b ∷ rest)) refl h
  where
    go : (n : ℕ) → space_len (b ∷ rest) ≡ n → 0 < n → drop_spaces (drop n (b ∷ rest)) ≡ drop_spaces (b ∷ rest)
    go zero e h = absurd (omega arith)
    go (suc n) e h = sym (after_spaces-drop n rest) ∙ sym (rw (e, after_spaces) refl)

-- no whitespace is there
pub drop_spaces-none : (text : List ℕ) → space_len text ≡ 0 → drop_spaces text ≡ text
unfolding after_spaces
drop_spaces-none [] h = refl
drop_spaces-none (b ∷ rest) h = rw (h, after_spaces) refl

-- what is left is the end of the text
pub after_spaces-end : (n : ℕ) (text : List ℕ) → (lead : List ℕ) × (text ≡ lead ++ after_spaces n text)
unfolding after_spaces
after_spaces-end n [] = ([], refl)
after_spaces-end (suc n) (b ∷ text) = let e = after_spaces-end n text in (b ∷ e.0, ap (λ (t : List ℕ). b ∷ t) e.1)
after_spaces-end zero (b ∷ text) = go (λ n. after_spaces-end n text) (space_len (b ∷ text)) refl
  where
    go : ((n : ℕ) → (lead : List ℕ) × (text ≡ lead ++ after_spaces n text)) → (n : ℕ) → space_len (b ∷ text) ≡ n
        → (lead : List ℕ) × (b ∷ text ≡ lead ++ after_spaces 0 (b ∷ text))
    go more_of zero e = ([], sym (drop_spaces-none (b ∷ text) e))
    go more_of (suc n) e =
        let here : after_spaces 0 (b ∷ text) ≡ after_spaces n text = rw (e, after_spaces) refl in
        (b ∷ (more_of n).0, ap (λ (t : List ℕ). b ∷ t) ((more_of n).1 ∙ ap (λ (t : List ℕ). (more_of n).0 ++ t) (sym here)))
