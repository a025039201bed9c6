use Rattle.std.proofs.Common.{sym}
use Rattle.npm_semver.proofs.Answered.{least_said}
use Rattle.npm_semver.proofs.subcommands.ranges.least.Goals as goal

pub returns-clause-ok : goal.returns-clause-ok
returns-clause-ok c =
    least_said _ _ _ _ _ (sym c.if-is_empty.ensures) c.in_ok-ranges.ensures.ok
    (rw c.deref.ensures.value at c.in_ok-least_of_all.ensures.least) c.in_ok-least_of_all.ensures.build
    c.in_ok-found.ensures
