use Rattle.npm_words.proofs.{Common.{None, Some, arith, common_steps, is_mark, nat_tests, npm_partial_view}, Grammar.AlternativeLaw.behind-le}
use Rattle.{npm_words.proofs.Grammar.Words.word_here, semver_core.proofs.Text.Runs.prefix_each}
use Rattle.npm_words.proofs.words.word_front.Goals as goal

pub are_marks-requires : goal.are_marks-requires
are_marks-requires c = grind (arith, prefix_each is_mark)

pub slice_bounds-text-count : goal.slice_bounds-text-count
slice_bounds-text-count c = behind-le _ _ _ _ _ c.in_ok-partial.ensures

pub returns-in_err-partial : goal.returns-in_err-partial
returns-in_err-partial c =
    rw c.from_residual.ensures (word_here _ _ _ _ None c.sign_front-sign.ensures c.marks_len-marks.ensures.value c.in_err-partial.ensures)

pub returns-then-not-are_marks : goal.returns-then-not-are_marks
returns-then-not-are_marks c =
    let here = word_here _ _ _ _ (Some (npm_partial_view c.in_ok-partial.partial, c.in_ok-partial.rest.now))
    c.sign_front-sign.ensures c.marks_len-marks.ensures.value c.in_ok-partial.ensures in
    grind (arith, nat_tests, common_steps)

pub returns : goal.returns
returns c =
    let here = word_here _ _ _ _ (Some (npm_partial_view c.in_ok-partial.partial, c.in_ok-partial.rest.now))
    c.sign_front-sign.ensures c.marks_len-marks.ensures.value c.in_ok-partial.ensures in
    grind (arith, nat_tests, common_steps)
