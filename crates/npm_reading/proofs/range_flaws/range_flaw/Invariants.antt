use Rattle.{nodejs_semver.proofs.Common.rest_view, npm_words.proofs.FlawPlaces.Ranges.Passed, semver_core.specs.Internal.Parts.left_over}
use Rattle.npm_reading.proofs.range_flaws.range_flaw.Given as goal

abbrev pub invariant-pieces : goal.invariant-pieces
invariant-pieces l = Passed l.include_prerelease l.text (rest_view l.rest)

abbrev pub decreases-pieces : goal.decreases-pieces
decreases-pieces l = left_over (rest_view l.rest)
