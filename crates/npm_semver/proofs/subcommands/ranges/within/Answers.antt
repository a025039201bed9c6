use Rattle.npm_semver.proofs.Answered.{within_said}
use Rattle.npm_semver.proofs.subcommands.ranges.within.Goals as goal

pub returns : goal.returns
returns c = λ a b one other.
    within_said a b _ _ _ _ one other c.in_ok-least_beyond.ensures.least c.in_ok-least_beyond.ensures.build c.in_ok-left_out.ensures
