use Rattle.npm_words.{proofs.Common.{length, ◌≡◌}, specs.Internal.Inside.behind_ids}
use Rattle.npm_words.proofs.inside.behind_ids.Given as goal

abbrev pub invariant-ids : goal.invariant-ids
invariant-ids l = behind_ids (length l.text) l.strict l.text ≡ behind_ids (length l.left) l.strict l.left

abbrev pub decreases-ids : goal.decreases-ids
decreases-ids l = length l.left
