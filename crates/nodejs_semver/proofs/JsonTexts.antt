-- What the reader of JSON leaves to be said of memory.
use Rattle.nodejs_semver.proofs.Common.{Failure, List, MemoryOnlyIf, Result, Some, [], arith, length, ℕ, ◌<◌, ◌∷◌}
use Rattle.nodejs_semver.proofs.Common.{◌≡◌}
use Rattle.serde_json.proofs.OnLiterals.{serde_json_on_literals}
use Rattle.serde_json.specs.{Data.{Data}, Read.{read}}

-- a text that has a value is not empty
pub read-some : (text : List ℕ) (d : Data) → read text ≡ Some d → 0 < length text
unfolding serde_json_on_literals
read-some [] d h = absurd (cc)
read-some (b ∷ rest) d h = omega arith

pub memory-if : {A E : Type 0} (r : Result A (Failure E)) (P : Type 0) → P → MemoryOnlyIf r P
memory-if r P p = grind arith
