-- For proofs and private contracts. Where a word may end, computed.
use Rattle.semver_core.specs.Internal.Spaces.{drop_spaces, space_len}
use Rattle.semver_core.specs.Lists.{is_empty}
use Rattle.std.specs.Prelude.{[], Bool, List, None, Option, Some, false, if◌then◌else◌, nat_lt, true, ℕ, ◌||◌, ◌∷◌}

-- the end of a part, or whitespace
unfoldable pub is_boundary : List ℕ → Bool
is_boundary text = is_empty text || nat_lt 0 (space_len text)

-- what follows one whitespace character or more
abbrev pub after_some_space : List ℕ → Option (List ℕ)
after_some_space text = if nat_lt 0 (space_len text) then Some (drop_spaces text) else None

-- what stands from the first boundary on
unfoldable pub from_boundary : List ℕ → List ℕ
from_boundary [] = []
from_boundary (b ∷ rest) = elim (is_boundary (b ∷ rest)) [ true ↦ b ∷ rest | false ↦ from_boundary rest ]
