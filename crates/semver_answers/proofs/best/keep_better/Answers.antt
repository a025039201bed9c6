use Rattle.semver_answers.proofs.Replies.{finds_more}
use Rattle.semver_answers.proofs.best.keep_better.Goals as goal

pub returns-then-is_new_best-clause-best : goal.returns-then-is_new_best-clause-best
returns-then-is_new_best-clause-best c = λ texts text parses.
    finds_more _ _ texts text _ _ _ (rw c.in-Ok.is at parses).0
    (rw (c.if-is_new_best.true, c.as_ref.ensures.value) at c.is_new_best.ensures)

pub returns-else-is_new_best-clause-best : goal.returns-else-is_new_best-clause-best
returns-else-is_new_best-clause-best c = λ texts text parses.
    finds_more _ _ texts text _ _ _ (rw c.in-Ok.is at parses).0
    (rw (c.if-is_new_best.false, c.as_ref.ensures.value) at c.is_new_best.ensures)
