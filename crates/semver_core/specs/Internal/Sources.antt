-- For proofs and private contracts: what the fields hold of an iterator over identifiers.
use Rattle.std.specs.Prelude.{◌≡◌, ◌==◌, ◌&&◌, nat_lt, ⊤, ℕ, Bool, true, false, List, [], ◌∷◌, length, not}
use Rattle.std.specs.List.{list_any}
use Rattle.semver_core.specs.Text.Characters.{begins}
use Rattle.semver_core.specs.Text.Identifiers.{Id, is_listed, listed, pieces}
use Rattle.semver_core.specs.Values.Views.{ids_view}
use Rattle.semver_core.specs.declared.borrowed.identifiers.Source.{Source}
use Rattle.semver_core.specs.declared.borrowed.identifiers.Source.TheVariants.{Items, Text}

-- the identifiers that stand there
abbrev pub ids_of : Source → List Id
ids_of (Items list) = ids_view list.now
ids_of (Text text) = listed text.now

-- a text spells a list
abbrev pub IsSource : Source → Type 0
IsSource (Items list) = ⊤
IsSource (Text text) = is_listed text.now ≡ true

-- a run of several bytes begins with a 0
abbrev pub is_padded : List ℕ → Bool
is_padded run = nat_lt 1 (length run) && begins (λ c. c == 48) run

-- such a run stands between the dots of a text
unfoldable pub has_padded : List ℕ → Bool
has_padded text = list_any is_padded (pieces text)

-- the text begins with a 0 that no dot follows, but another byte
abbrev pub begins_padded_run : List ℕ → Bool
begins_padded_run [] = false
begins_padded_run (c ∷ []) = false
begins_padded_run (c ∷ d ∷ rest) = c == 48 && not (d == 46)
