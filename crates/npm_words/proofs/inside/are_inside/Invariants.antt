use Rattle.npm_words.{proofs.Common.{length, ◌≡◌}, specs.Internal.Inside.are_inside}
use Rattle.npm_words.proofs.inside.are_inside.Given as goal

abbrev pub invariant-partials : goal.invariant-partials
invariant-partials l = are_inside (length l.text) l.text ≡ are_inside (length l.left) l.left

abbrev pub decreases-partials : goal.decreases-partials
decreases-partials l = length l.left
