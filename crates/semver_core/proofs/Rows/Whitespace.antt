-- Worked rows, computed. A text is written by the code points of its characters.
use Rattle.semver_core.proofs.Common.{List, [], refl, ℕ, ◌∷◌, ◌≡◌, encode_utf8, encode_utf8_all, after_spaces, drop_end_spaces}
use Rattle.semver_core.proofs.Common.{drop_spaces, space_len, trim, map}

abbrev Trims : List (List ℕ × List ℕ) → Type 0
Trims rows = map (λ row. trim (encode_utf8_all row.0)) rows ≡ map (λ row. encode_utf8_all row.1) rows

-- a space, U+FEFF, `1`, U+3000, `2`, U+00A0 and a tab; U+0085, U+180E and U+200B, which are no whitespace; whitespace alone
trims : Trims (
    (0x20 ∷ 0xFEFF ∷ 49 ∷ 0x3000 ∷ 50 ∷ 0xA0 ∷ 0x9 ∷ [], 49 ∷ 0x3000 ∷ 50 ∷ []) ∷
    (0x85 ∷ 0x180E ∷ 0x200B ∷ [], 0x85 ∷ 0x180E ∷ 0x200B ∷ []) ∷ (0x2028 ∷ 0xD ∷ 0x200A ∷ [], []) ∷ []
    )
unfolding encode_utf8 space_len after_spaces drop_end_spaces
trims = refl

-- the line separator takes three bytes, and is no part of what stands behind it
behind : drop_spaces (encode_utf8_all (0x2028 ∷ 0x20 ∷ 120 ∷ 0x20 ∷ [])) ≡ encode_utf8_all (120 ∷ 0x20 ∷ [])
unfolding encode_utf8 space_len after_spaces
behind = refl
