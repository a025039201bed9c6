-- For proofs. What is put behind the output, and the bytes of short texts as numbers.
use Rattle.std.specs.Prelude.{◌≡◌, ◌+◌, ◌*◌, ◌++◌, ◌∷◌, ℕ, List, [], codes}
use Rattle.std.specs.Fmt.{decimal}

-- the output goes on with some bytes
abbrev pub Extends : (old new : List ℕ) → Type 0
Extends old new = (more : List ℕ) × (new ≡ old ++ more)

-- the number whose bytes these are, the lowest first
unfoldable pub le_value : List ℕ → ℕ
le_value [] = 0
le_value (byte ∷ rest) = byte + 256 * le_value rest

-- a number and a dot
abbrev pub part_text : ℕ → List ℕ
part_text n = decimal n ++ codes "."

-- three numbers with dots between them
abbrev pub release_text : ℕ → ℕ → ℕ → List ℕ
release_text major minor patch = part_text major ++ (part_text minor ++ decimal patch)
