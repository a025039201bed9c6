-- Moved.
use Rattle.semver_core.specs.{Printing.RoundTrip.is_normal, Text.Identifiers.{Id, IsIdentifiers, identifier_of, is_identifier, pieces}}
use Rattle.std.{proofs.Common.{List, [], arith, map, refl, true, ℕ, ◌∷◌, ◌≡◌}, specs.List.list_all}

-- ---- identifiers

run-normal : (run : List ℕ) → is_identifier run ≡ true → is_normal (identifier_of run) ≡ true
run-normal run h = grind arith

runs-normal : (runs : List (List ℕ)) → list_all is_identifier runs ≡ true → list_all is_normal (map identifier_of runs) ≡ true
runs-normal [] h = refl
runs-normal (run ∷ rest) h = grind (arith, run-normal, runs-normal rest)

pub identifiers-normal : (text : List ℕ) (ids : List Id) → IsIdentifiers text ids → list_all is_normal ids ≡ true
identifiers-normal text ids h = rw h.spelled (runs-normal (pieces text) h.runs)
