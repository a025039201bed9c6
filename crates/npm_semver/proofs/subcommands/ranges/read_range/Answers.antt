use Rattle.npm_semver.proofs.Answered.{no_range}
use Rattle.npm_semver.proofs.subcommands.ranges.read_range.Goals as goal

pub returns-in-Err-Refused-clause-refused : goal.returns-in-Err-Refused-clause-refused
returns-in-Err-Refused-clause-refused c = no_range _ (rw c.in-Err-Refused.field-0-is at c.in-Err-Refused.ensures.refused)
