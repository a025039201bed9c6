use Rattle.npm_words.{proofs.Common.{MAX_LENGTH, [], length, marked_list, nat_le, version_text, ◌∷◌, ◌≡◌}, specs.Internal.Parts.no_build}
use Rattle.npm_words.proofs.comparators.prints_within.Given as goal

abbrev pub invariant-ids : goal.invariant-ids
invariant-ids l = nat_le (length (marked_list (45 ∷ []) l.ids)) l.room ≡ nat_le (length (version_text (no_build l.fn.version))) MAX_LENGTH

abbrev pub decreases-ids : goal.decreases-ids
decreases-ids l = length l.ids
