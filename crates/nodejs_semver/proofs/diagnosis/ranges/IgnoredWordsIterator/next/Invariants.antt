use Rattle.nodejs_semver.proofs.Common.{◌≡◌}
use Rattle.nodejs_semver.specs.Internal.Ignored.{left_list, left_size}
use Rattle.nodejs_semver.proofs.diagnosis.ranges.IgnoredWordsIterator.next.Given as goal

abbrev pub invariant-words : goal.invariant-words
invariant-words l = left_list l.self-inside.left ≡ left_list l.initial.self-inside.left

abbrev pub decreases-words : goal.decreases-words
decreases-words l = left_size l.self-inside.left
