-- Statement. The division of a range text at its bars `||`. A text is the list of its bytes in UTF-8.
use Rattle.semver_core.specs.Text.Characters.{begins, ends}
use Rattle.std.specs.Prelude.{[], Bool, List, codes, false, ℕ, ◌&&◌, ◌++◌, ◌==◌, ◌||◌, ◌∷◌, ◌≡◌}

abbrev pub is_bar : ℕ → Bool
is_bar b = b == 124

-- the text contains `||`
abbrev pub has_bars : List ℕ → Bool
has_bars [] = false
has_bars (b ∷ rest) = (is_bar b && begins is_bar rest) || has_bars rest

-- the division of a text at its bars: one piece, which does not contain `||`; or a piece that neither
-- contains `||` nor ends in `|`, then `||`, and then the pieces of the rest
pub data IsCutAtBars : List ℕ → List (List ℕ) → Type 0 where
  one_piece : (text : List ℕ) → has_bars text ≡ false → IsCutAtBars text (text ∷ [])
  more_pieces : (x rest : List ℕ) (others : List (List ℕ)) → has_bars x ≡ false → ends is_bar x ≡ false
      → IsCutAtBars rest others → IsCutAtBars (x ++ (codes "||" ++ rest)) (x ∷ others)
