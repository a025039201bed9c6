-- What the bytes at the front of a key say.
use Rattle.semver_core.proofs.Common.{ℕ, ◌≡◌, ◌<◌, ◌+◌, ◌++◌, ◌∷◌, List, [], refl, arith, zero, suc, length, drop}
use Rattle.semver_core.proofs.Common.{take, take-append-drop, get_or, AlphaNumeric, Id, Numeric}
use Rattle.std.proofs.lemmas.Grind.{common_steps, elements}
use Rattle.semver_core.specs.Keys.{ids_key, text_key}
use Rattle.semver_core.specs.Internal.KeyReading.{IsLow, low}

pub ids_start : (xs : List Id) → IsLow (ids_key xs)
ids_start [] = low 0 [] (omega arith)
ids_start (Numeric n ∷ xs) = low 1 _ (omega arith)
ids_start (AlphaNumeric t ∷ xs) = low 2 _ (omega arith)

-- ---- texts

-- 0 and 255 are the byte 0 of the text
pub text_has_zero : (tail text rest : List ℕ) → IsLow rest → 0 ∷ 255 ∷ tail ≡ text_key text ++ rest
    → (u : List ℕ) × (text ≡ 0 ∷ u) × (tail ≡ text_key u ++ rest)
text_has_zero tail [] _ (low c rest h) e = absurd (grind arith)
text_has_zero tail (zero ∷ text) rest h e = (text, refl, cc)
text_has_zero tail (suc d ∷ text) rest h e = cc

-- 0 without 255 behind it is the end
pub text_ends : (tail text rest : List ℕ) → ((more : List ℕ) → tail ≡ 255 ∷ more → ⊥) → 0 ∷ tail ≡ text_key text ++ rest
    → tail ≡ rest
text_ends tail [] rest h e = cc
text_ends tail (zero ∷ text) rest h e = absurd (h (text_key text ++ rest) cc)
text_ends tail (suc d ∷ text) rest h e = cc

-- ---- the bytes of numbers

-- what is cut off in front is the bytes of the number that it spells
pub spelled : (k : ℕ) (bytes chunk rest more : List ℕ) → chunk ≡ take k bytes → rest ≡ drop k bytes → length rest + k ≡ length bytes
    → ((i : ℕ) → get_or bytes i 0 < 256) → (length chunk ≡ k → ((i : ℕ) → get_or chunk i 0 < 256) → more ≡ chunk)
    → bytes ≡ more ++ rest
spelled k bytes chunk rest more e f len h same =
    let cut = take-append-drop k bytes in
    let long : length chunk ≡ k = grind (arith, common_steps) in
    let small : (i : ℕ) → get_or chunk i 0 < 256 = λ i. grind (arith, common_steps, elements, h i) in
    let is = same long small in
    cc
