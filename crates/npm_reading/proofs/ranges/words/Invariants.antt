use Rattle.{nodejs_semver.proofs.Common.length, npm_reading.proofs.Grammar.WordLoop.AreWordsTo}
use Rattle.npm_reading.proofs.ranges.words.Given as goal

abbrev pub invariant-words : goal.invariant-words
invariant-words l = AreWordsTo l.loose l.include l.text l.all.0 l.all.1.0 l.is_last_ignored l.rest

abbrev pub decreases-words : goal.decreases-words
decreases-words l = length l.rest
