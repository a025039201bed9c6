use Rattle.std.proofs.Common.{arith}
use Rattle.std.proofs.lemmas.Grind.{common_steps}
use Rattle.npm_semver.proofs.subcommands.spans.listed.Goals as goal

pub loop-span-preserved : goal.loop-span-preserved
loop-span-preserved c = grind (arith, common_steps)

pub returns-clause-ok : goal.returns-clause-ok
returns-clause-ok c = grind (arith, common_steps)
