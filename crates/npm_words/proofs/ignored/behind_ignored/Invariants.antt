use Rattle.npm_words.proofs.Common.{behind_ignored, length, ◌≡◌}
use Rattle.npm_words.proofs.ignored.behind_ignored.Given as goal

abbrev pub invariant-pieces : goal.invariant-pieces
invariant-pieces l = behind_ignored (length l.text) l.text ≡ behind_ignored (length l.rest) l.rest

abbrev pub decreases-pieces : goal.decreases-pieces
decreases-pieces l = length l.rest
