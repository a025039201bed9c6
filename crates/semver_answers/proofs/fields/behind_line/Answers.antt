use Rattle.std.proofs.Common.{sym, ◌∙◌}
use Rattle.semver_answers.proofs.Firsts.{feed_boundary, line_cut}
use Rattle.semver_answers.proofs.fields.behind_line.Goals as goal

pub range_from-requires : goal.range_from-requires
range_from-requires c = λ _. (
    let found = rw (c.in-Some.is, c.as_bytes.ensures.value) at c.memchr.ensures in
    feed_boundary c.args.text.now c.in-Some.end c.utf8.text found.0.high found.1)

pub returns : goal.returns
returns c =
    (c.range_from.ensures.value ∙ sym (line_cut c.args.text.now c.in-Some.end (rw (c.in-Some.is, c.as_bytes.ensures.value) at c.memchr.ensures)).1, c.range_from.utf8)
