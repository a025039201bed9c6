use Rattle.std.proofs.Common.{◌∙◌, arith}
use Rattle.std.proofs.lemmas.Bool.{false≢true}
use Rattle.std.proofs.lemmas.List.{take_all}
use Rattle.nodejs_semver.proofs.Values.{spans_same}
use Rattle.semver_answers.proofs.parts.range_of_copies.Goals as goal

pub unreachable-requires : goal.unreachable-requires
unreachable-requires c =
    let copies = c.loop-interval.invariant ∙ take_all _ _ (omega (arith, c.loop-interval-test.false)) in
    false≢true (c.in-Err.ensures.exact.1 (rw (spans_same, copies) c.requires))

pub returns : goal.returns
returns c =
    let copies = c.loop-interval.invariant ∙ take_all _ _ (omega (arith, c.loop-interval-test.false)) in
    c.in-Ok.ensures.list ∙ spans_same _ ∙ copies
