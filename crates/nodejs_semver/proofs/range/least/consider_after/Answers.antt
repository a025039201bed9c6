use Rattle.nodejs_semver.proofs.{Common.{Far, sym, ◌∙◌}, Questions.Least.reached}
use Rattle.nodejs_semver.proofs.range.least.consider_after.Goals as goal

pub returns-then-is_reached-clause-best : goal.returns-then-is_reached-clause-best
returns-then-is_reached-clause-best g c = sym (reached _ _ _ _ Far (sym c.is_reached.ensures ∙ c.if-is_reached.true))

pub returns-clause-best : goal.returns-clause-best
returns-clause-best g c = rw (sym c.is_release.ensures ∙ c.if-is_release.false)
    (rw (c.bare_release.ensures, c.in_ok-tried.ensures.best, c.in_ok-pre_after.ensures) at c.consider-3.ensures.best)
