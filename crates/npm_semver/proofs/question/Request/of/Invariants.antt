use Rattle.std.proofs.Common.{Option, map, string_bytes}
use Rattle.npm_semver.specs.Arguments.{Asked, Asks, nothing_asked}
use Rattle.npm_semver.specs.Internal.Asked.{asked_of}
use Rattle.npm_semver.proofs.Cuts.{size}
use Rattle.npm_semver.proofs.question.Request.of.Given as goal

abbrev pub invariant-words : goal.invariant-words
invariant-words l = (asked : Option Asked) → Asks l.words (asked_of l.question) asked → Asks (map string_bytes l.fn.arguments) nothing_asked asked

abbrev pub decreases-words : goal.decreases-words
decreases-words l = size l.words
