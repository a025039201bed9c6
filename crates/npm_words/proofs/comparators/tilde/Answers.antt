use Rattle.npm_words.proofs.{Common.{ap, arith, false, from, npm_partial_view, within, ◌∙◌}, Grammar.{Printed.from_valid, Rows.noted_valid}}
use Rattle.npm_words.proofs.Grammar.Rows.{part_tilde}
use Rattle.npm_words.proofs.comparators.tilde.Goals as goal

pub returns-in-Major : goal.returns-in-Major
returns-in-Major c text e =
    let n = c.first-numbers.result in
    part_tilde c.args.include c.args.padded text (npm_partial_view c.args.partial.now) n _ _ (grind arith) c.first-numbers.ensures e
    c.next-in-Major.ensures (c.until-in-Major.ensures c.args.include _
    (noted_valid c.args.padded (from false n) ∙ from_valid false n ∙ ap within c.first-numbers.ensures ∙ c.requires.within)
    (rw c.release-first.ensures at c.from_version-in-Major.ensures))
