-- The last of a list.
use Rattle.std.proofs.Common.{◌≡◌, ◌↔◌, ◌<◌, ◌++◌, [], ◌∷◌, arith, List, length, None, Option, Some, ℕ}
use Rattle.std.proofs.lemmas.Bool.{false≢true}
use Rattle.std.specs.Prelude.{IsSome}
use Rattle.std.specs.Option.{option_to_list}
use Rattle.registry_index.specs.Searches.{IsLast}
use Rattle.registry_index.specs.declared.search.Found.{Found}

pub is_last : (all less : List Found) (best : Option Found) (n : ℕ) → n ≡ length all
    → all ≡ less ++ option_to_list best → IsSome best ↔ (0 < n) → IsLast all best
is_last all less (Some f) n l e v = (less, e)
is_last [] less None n l e v = λ i. []
is_last (f ∷ all) less None n l e v = absurd (false≢true (v.1 (grind (arith, l))))
