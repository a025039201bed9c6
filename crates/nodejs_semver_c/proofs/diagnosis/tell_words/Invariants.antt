use Rattle.std.proofs.Common.{◌≡◌, ◌-◌, ◌^◌, ◌++◌, List, length, min}
use Rattle.nodejs_semver.specs.declared.diagnosis.ranges.IgnoredWord.{IgnoredWord}
use Rattle.nodejs_semver_c.specs.Words.{fitted, told_word}
use Rattle.nodejs_semver_c.proofs.diagnosis.tell_words.Given as goal

-- the words so far are counted, and told as far as there is room
abbrev pub invariant-words : goal.invariant-words
invariant-words l = (front : List IgnoredWord) × ((l.initial.left ≡ front ++ l.left)
    × ((l.words ≡ fitted told_word front l.initial.words) × (l.count ≡ min (length front) (2 ^ 64 - 1))))

abbrev pub decreases-words : goal.decreases-words
decreases-words l = length l.left
