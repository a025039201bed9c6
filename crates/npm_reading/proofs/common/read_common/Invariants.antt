use Rattle.{nodejs_semver.proofs.Common.length, npm_reading.proofs.Grammar.CommonReads.Reaches}
use Rattle.npm_reading.proofs.common.read_common.Given as goal

abbrev pub invariant-parts : goal.invariant-parts
invariant-parts l = Reaches l.include l.text l.found.items l.rest

abbrev pub decreases-parts : goal.decreases-parts
decreases-parts l = length l.rest
