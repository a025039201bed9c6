use Rattle.npm_words.proofs.Common.{sym, ◌∙◌}
use Rattle.npm_words.proofs.hyphens.End.upper_bounds.Goals as goal

pub returns-then-include : goal.returns-then-include
returns-then-include c =
    let under = c.under.ensures c.args.include in
    rw (c.in-Whole.is, sym c.is_release.ensures ∙ c.if-is_release.true, c.if-include.true)
    (rw (c.if-include.true, c.major.ensures.value, c.minor.ensures.value, c.patch.ensures.value) at under)
