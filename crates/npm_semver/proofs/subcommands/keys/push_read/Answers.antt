use Rattle.std.proofs.Common.{◌∙◌, arith}
use Rattle.std.proofs.lemmas.Grind.{common_steps}
use Rattle.npm_semver.proofs.subcommands.keys.push_read.Goals as goal

pub returns-clause-some : goal.returns-clause-some
returns-clause-some c = λ e.
    let is = c.deref.ensures ∙ c.in_ok-printed.ensures.ok in
    (rw is at c.is_read.ensures.some (grind (arith, c.if-not-is_read.false)), grind (arith, common_steps))

pub returns-then-not-is_read-clause-none : goal.returns-then-not-is_read-clause-none
returns-then-not-is_read-clause-none c = λ e.
    let is = c.deref.ensures ∙ c.in_ok-printed.ensures.ok in
    rw is at c.is_read.ensures.none (grind (arith, c.if-not-is_read.true))
