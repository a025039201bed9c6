use Rattle.{nodejs_semver.proofs.Common.rest_view, npm_reading.proofs.Grammar.RangeReads.AreReadTo, semver_core.specs.Internal.Parts.left_over}
use Rattle.npm_reading.proofs.ranges.fill_any.Given as goal

abbrev pub invariant-parts : goal.invariant-parts
invariant-parts l = AreReadTo l.loose l.include l.text l.is_some l.found.items (rest_view l.rest)

abbrev pub decreases-parts : goal.decreases-parts
decreases-parts l = left_over (rest_view l.rest)
