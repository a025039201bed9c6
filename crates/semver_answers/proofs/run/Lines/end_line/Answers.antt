use Rattle.std.proofs.Common.{◌∙◌}
use Rattle.semver_answers.proofs.Firsts.{longer}
use Rattle.semver_answers.proofs.run.Lines.end_line.Goals as goal

pub answer_line-requires-2-clause-last : goal.answer_line-requires-2-clause-last
answer_line-requires-2-clause-last c =
    rw (c.as_slice-line.ensures.value, c.in_ok-extend_from_slice.ensures.items)
    ((longer c.args.self.now.pending.items c.args.end.now c.requires.pending).1 ∙ c.requires.last)
