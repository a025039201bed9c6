use Rattle.std.proofs.Common.{arith}
use Rattle.std.proofs.lemmas.Grind.{common_steps}
use Rattle.npm_semver.proofs.subcommands.spans.Dialect.write_span.Goals as goal

pub returns-else-span : goal.returns-else-span
returns-else-span c = grind (arith, common_steps)

pub returns-in_ok-write_released : goal.returns-in_ok-write_released
returns-in_ok-write_released c = grind (arith, common_steps)
