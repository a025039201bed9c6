use Rattle.npm_words.proofs.Common.{IsLeft, IsUtf8, MAX_SAFE_INTEGER, length}
use Rattle.npm_words.proofs.malformed_words.skip_right_words.Given as goal

abbrev pub invariant-words : goal.invariant-words
invariant-words l = IsLeft MAX_SAFE_INTEGER l.include l.rest l.text × IsUtf8 l.rest

abbrev pub decreases-words : goal.decreases-words
decreases-words l = length l.rest
