-- For proofs and private contracts. The pieces of a text between its dots, one after another.
use Rattle.std.specs.Prelude.{◌==◌, ◌+◌, ◌∷◌, [], ℕ, List, Option, not, if◌then◌else◌}
use Rattle.std.specs.List.{prefix_len}
use Rattle.semver_core.specs.Internal.CommonReading.{grown}
use Rattle.semver_core.specs.Text.Identifiers.{Id, identifier_of, pieces}
use Rattle.std.specs.Prelude.{map}

-- how long the first piece is
abbrev pub first_len : List ℕ → ℕ
first_len text = prefix_len (λ c. not (c == 46)) text

-- where the first piece ends, and the number that it writes
unfoldable pub piece_from : Option ℕ → ℕ → List ℕ → ℕ × Option ℕ
piece_from number at [] = (at, number)
piece_from number at (c ∷ rest) = if c == 46 then (at, number) else piece_from (grown number c) (at + 1) rest

-- the identifiers of all pieces
abbrev pub spelled : List ℕ → List Id
spelled text = map identifier_of (pieces text)
