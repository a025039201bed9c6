use Rattle.npm_words.proofs.{Common.{arith, npm_partial_view, refl}, Grammar.{Printed.from_valid, Rows.{noted_valid, part_at_most, part_below}}}
use Rattle.npm_words.proofs.Grammar.Rows.{part_equal}
use Rattle.npm_words.proofs.comparators.compared.Goals as goal

pub returns-in-Above : goal.returns-in-Above
returns-in-Above c k = rw (c.in-Wildcard.is, c.in-Above.is) (c.under.ensures c.args.include)

pub returns-in-Below : goal.returns-in-Below
returns-in-Below c k = rw (c.in-Wildcard.is, c.in-Below.is) (c.under-in-Below.ensures c.args.include)

pub returns-in-Equal : goal.returns-in-Equal
returns-in-Equal c k = grind (arith, part_equal, noted_valid, from_valid, c.until.ensures)

pub returns-in-Below-comparator : goal.returns-in-Below-comparator
returns-in-Below-comparator c k =
    rw c.in-Below-comparator.is (part_below c.args.include c.args.padded c.args.text.now (npm_partial_view c.args.partial.now) _
    c.first-in-Below-comparator.result _ (grind arith) c.first-in-Below-comparator.ensures (c.under-in-Below-comparator.ensures c.args.include))

pub returns-in-AtMost : goal.returns-in-AtMost
returns-in-AtMost c k =
    rw c.in-AtMost.is (part_at_most c.args.include c.args.padded c.args.text.now (npm_partial_view c.args.partial.now) _ _ _ (grind arith) refl
    c.next-in-AtMost.ensures (c.under-in-AtMost.ensures c.args.include))
