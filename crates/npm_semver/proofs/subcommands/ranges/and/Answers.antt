use Rattle.npm_semver.proofs.Answered.{and_shown}
use Rattle.npm_semver.proofs.subcommands.ranges.and.Goals as goal

pub returns : goal.returns
returns c = λ a b one other. and_shown a b _ _ _ _ one other c.in_ok-both.ensures.list c.in_ok-shown.ensures
