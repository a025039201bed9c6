use Rattle.std.proofs.Common.{arith, ◌∙◌}
use Rattle.npm_semver.specs.Internal.Asked.{asked_of}
use Rattle.npm_semver.proofs.Answering.{empty_texts, if_responds, of_none, of_one, of_others, of_ranges, responds}
use Rattle.npm_semver.proofs.run.increment.Goals as goal

pub returns-then-not-read : goal.returns-then-not-read
returns-then-not-read c =
    responds (asked_of c.args.question.now) c.args.level.now c.requires.read.found _ c.requires.answered c.requires.level c.requires.read.found_are
    (c.nothing.ensures ∙ of_none (asked_of c.args.question.now) c.args.level.now _ _ c.requires.read.some_are (grind (arith, c.if-not-read.true)))

pub returns-then-not-is_empty : goal.returns-then-not-is_empty
returns-then-not-is_empty c =
    responds (asked_of c.args.question.now) c.args.level.now c.requires.read.found _ c.requires.answered c.requires.level c.requires.read.found_are
    (c.nothing-then-not-is_empty.ensures ∙ of_ranges (asked_of c.args.question.now) c.args.level.now _ _ c.requires.read.some_are
    (grind (arith, c.if-not-read.false)) (empty_texts _ _ (rw c.as_slice-ranges.ensures.value at c.if-not-is_empty.ensures)))

pub returns-then-entries-ne1 : goal.returns-then-entries-ne1
returns-then-entries-ne1 c =
    responds (asked_of c.args.question.now) c.args.level.now c.requires.read.found _ c.requires.answered c.requires.level c.requires.read.found_are
    (c.nothing-then-entries-ne1.ensures ∙ of_others (asked_of c.args.question.now) c.args.level.now c.args.read.now.entries.items _ _ c.requires.read.some_are
    (grind (arith, c.if-not-read.false)) (rw c.as_slice-entries.ensures.value at c.if-entries-ne1.true) c.requires.read.all_are
    (empty_texts _ _ (rw c.as_slice-ranges.ensures.value at c.if-not-is_empty.ensures)))

pub returns : goal.returns
returns c =
    if_responds _ (asked_of c.args.question.now) c.args.level.now c.requires.read.found _ c.requires.answered c.requires.level c.requires.read.found_are
    (of_one (asked_of c.args.question.now) c.args.level.now c.args.read.now.entries.items c.requires.read.found _
    (rw c.as_slice-entries.ensures.value at c.index-entries-0.is) (rw c.as_slice-entries.ensures.value at c.if-entries-ne1.false) c.requires.read.all_are
    (empty_texts _ _ (rw c.as_slice-ranges.ensures.value at c.if-not-is_empty.ensures)))
    c.next.ensures
