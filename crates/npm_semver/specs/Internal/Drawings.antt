-- For proofs. The text of `explain`.
use Rattle.std.specs.Prelude.{◌≡◌, ◌∷◌, ◌++◌, ℕ, Bool, false, List}
use Rattle.std.specs.Str.{IsAscii}
use Rattle.nodejs_semver.specs.Printing.Text.{range_text}
use Rattle.npm_semver.specs.Subcommands.{Range}

-- the normal form of a range, and below it a drawing, which is ASCII where the locale has no UTF-8
abbrev pub IsDrawing : Bool → Range → List ℕ → Type 0
IsDrawing is_utf8 r text = (drawing : List ℕ) × (text ≡ range_text r ++ 10 ∷ drawing)
    × (is_utf8 ≡ false → IsAscii drawing)
