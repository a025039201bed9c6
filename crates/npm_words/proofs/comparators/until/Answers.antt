use Rattle.npm_words.proofs.{Common.{sym, ◌∙◌}, Grammar.Rows.{until_common, until_valid}}
use Rattle.npm_words.proofs.comparators.until.Goals as goal

pub returns-then-within : goal.returns-then-within
returns-then-within c include d valid common = (
  until_valid d c.args.end valid (sym c.within.ensures ∙ c.if-within.true),
  rw c.lowest.ensures (until_common include d c.args.lower c.args.end
      (sym c.within.ensures ∙ c.if-within.true) common),
)
