use Rattle.npm_semver.proofs.Answered.{minus_shown}
use Rattle.npm_semver.proofs.subcommands.ranges.minus.Goals as goal

pub returns : goal.returns
returns c = λ a b one other. minus_shown a b _ _ _ _ one other c.in_ok-rest.ensures.list c.in_ok-shown.ensures
