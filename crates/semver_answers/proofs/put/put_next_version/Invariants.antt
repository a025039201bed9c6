use Rattle.std.proofs.Common.{◌≡◌, ◌++◌, ◌∷◌, [], List, ℕ, length}
use Rattle.semver_core.specs.Printing.Text.{marked_list}
use Rattle.semver_answers.proofs.put.put_next_version.Given as goal

-- what is put so far, and what the others add, is the whole
abbrev pub invariant-ids : goal.invariant-ids
invariant-ids l = (so_far : List ℕ) × (l.output ≡ l.initial.output ++ so_far)
    × (so_far ++ marked_list (l.mark ∷ []) l.ids ≡ marked_list (l.initial.mark ∷ []) l.initial.ids)

abbrev pub decreases-ids : goal.decreases-ids
decreases-ids l = length l.ids
