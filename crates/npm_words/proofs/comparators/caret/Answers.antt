use Rattle.npm_words.proofs.{Common.{ap, arith, from, nat_lt, npm_partial_view, within, ℕ, ◌∙◌}, Grammar.{Printed.from_valid, Rows.caret_valid}}
use Rattle.npm_words.proofs.Grammar.Rows.{noted_valid, part_caret, whole_caret}
use Rattle.npm_words.proofs.comparators.caret.Goals as goal

pub returns-in-Major : goal.returns-in-Major
returns-in-Major c text e =
    let include = c.args.include in
    let n = c.first.result in
    let padded = nat_lt c.args.zeros c.zeros-in-Major.result in
    part_caret include padded text (npm_partial_view c.args.partial.now) n _ _ (grind arith) c.first.ensures _ e
    (ap (λ (n : ℕ). nat_lt c.args.zeros n) c.zeros-in-Major.ensures) c.next_changed-in-Major.ensures (c.until-in-Major.ensures include _
    (noted_valid padded (from include n) ∙ from_valid include n ∙ ap within c.first.ensures ∙ c.requires.within) c.from_numbers-lower.ensures)

pub returns-then-prints_short : goal.returns-then-prints_short
returns-then-prints_short c text e = grind (arith, caret_valid, whole_caret)
