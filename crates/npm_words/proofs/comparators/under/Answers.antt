use Rattle.npm_words.proofs.{Common.{ap, bounds_view, sym, ◌∙◌}, Grammar.Rows.under_read}
use Rattle.npm_words.proofs.comparators.under.Goals as goal
use Rattle.semver_core.specs.Values.Spans as Spans

pub returns-then-within : goal.returns-then-within
returns-then-within c include =
    under_read include c.args.end (bounds_view c.below.result) (sym c.within.ensures ∙ c.if-within.true)
    (c.below.ensures ∙ ap (λ w. Spans.< w) c.lowest.ensures)
