use Rattle.std.proofs.Common.{arith, sym}
use Rattle.npm_semver.specs.Arguments.{all, help}
use Rattle.npm_semver.proofs.Cuts.{asks_next, is_empty_asked, is_filled, size_behind, size_left}
use Rattle.npm_semver.proofs.question.Request.of.Goals as goal

pub returns-then-is_empty : goal.returns-then-is_empty
returns-then-is_empty c = is_empty_asked _ _ (sym c.if-is_empty.ensures)

pub returns-in-Help : goal.returns-in-Help
returns-in-Help c = is_filled _ _ _ (sym c.if-is_empty.ensures) (c.words.invariant _ (help _ _ _ _ c.in-Some.ensures.some (sym c.in-Help.ensures)))

pub words-smaller : goal.words-smaller
words-smaller c =
    let fewer = size_behind _ _ _ c.in-Some.ensures.some in
    let left = size_left c.of-word.result c.take_word.new.self in
    rw c.in_ok-add.ensures.left (omega arith)

pub words-preserved : goal.words-preserved
words-preserved c = λ asked asks. c.words.invariant asked
    (asks_next _ _ _ _ _ _ _ asked c.in-Some.ensures.some c.of-word.ensures c.in_default-word.not-Help c.in_ok-add.ensures.left c.in_ok-add.ensures.ok asks)

pub returns : goal.returns
returns c = is_filled _ _ _ (sym c.if-is_empty.ensures) (c.words.invariant _ (rw c.in_default.ensures.none (all _)))
