-- For proofs. A text that is put to the front of a buffer piece by piece.
use Rattle.std.specs.Prelude.{◌≡◌, ◌<◌, ◌≤◌, ◌-◌, ◌^◌, ◌++◌, ℕ, List, drop, length, min}

-- the text stands in front of what was there before, if the buffer has room for it; and its length
-- is counted
pub record Holds (old text out : List ℕ) (len : ℕ) : Type 0 where
  pub counted : len ≡ min (length text) (2 ^ 64 - 1)
  pub room : length out ≡ length old
  pub front : length text ≤ length old → length text < 2 ^ 63 → out ≡ text ++ drop (length text) old

-- the piece is put behind what was put before
pub record Adds (piece out_old out_new : List ℕ) (len_old len_new : ℕ) : Type 0 where
  pub at : (old text : List ℕ) → Holds old text out_old len_old → Holds old (text ++ piece) out_new len_new
