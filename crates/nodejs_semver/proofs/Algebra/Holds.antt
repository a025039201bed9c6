-- What a range text's intervals hold is what the text writes.
use Rattle.nodejs_semver.proofs.Common.{Bool, IsTotalOrder, List, Ordering, Run, VersionValue, [], ap₂, arith, denotes, flat_map, interval_of}
use Rattle.nodejs_semver.proofs.Common.{list_any, list_any-append, list_holds, map, part_denotes, precedence}
use Rattle.nodejs_semver.proofs.{Common.{precedence_total, refl, run_writes, ℕ, ◌||◌, ◌∷◌, ◌≡◌}, Dividing.RunLemmas.run-holds}
use Rattle.{nodejs_semver.specs.Internal.Writes.{part_writes, writes}, semver_core.proofs.Dividing.BarLemmas.parts-front}

runs-hold : {V : Type 0} {R : V → V → Ordering} → IsTotalOrder R → (v : V) (rs : List (Run V))
    → list_holds R (map (interval_of R) rs) v ≡ list_any (run_writes R v) rs
runs-hold o v [] = refl
runs-hold o v (r ∷ rs) = ap₂ (λ (s t : Bool). s || t) (run-holds o v r) (runs-hold o v rs)

parts-hold : (limit : ℕ) (v : VersionValue) (ps : List (List ℕ))
    → list_holds precedence (flat_map (part_denotes limit) ps) v ≡ list_any (part_writes limit v) ps
parts-hold limit v [] = refl
parts-hold limit v (p ∷ ps) = grind (arith, list_any-append, runs-hold, precedence_total, parts-hold limit v ps)

-- a text has a part or more: where all are empty, the first writes every version
pub denotes_hold : (limit : ℕ) (text : List ℕ) (v : VersionValue) → list_holds precedence (denotes limit text) v ≡ writes limit text v
denotes_hold limit text v = grind (arith, parts-front text, parts-hold)
