use Rattle.std.proofs.Common.{arith}
use Rattle.std.proofs.lemmas.Str.{IsCharBoundary-after_ascii}
use Rattle.semver_answers.proofs.Firsts.{cuts_field, cuts_line}
use Rattle.semver_answers.proofs.fields.mark_at.Goals as goal

pub range_from-requires : goal.range_from-requires
range_from-requires c = λ _.
    IsCharBoundary-after_ascii c.args.text.now c.args.end c.utf8.text c.requires.inside (omega (arith, rw c.as_bytes.ensures.value at c.in-59.is))

pub range_from-requires-in-10 : goal.range_from-requires-in-10
range_from-requires-in-10 c = λ _.
    IsCharBoundary-after_ascii c.args.text.now c.args.end c.utf8.text c.requires.inside (omega (arith, rw c.as_bytes.ensures.value at c.in-10.is))

pub returns-in-59-clause-some : goal.returns-in-59-clause-some
returns-in-59-clause-some c =
    cuts_field c.args.text.now c.args.end c.range_from.result c.requires.inside (rw c.as_bytes.ensures.value at c.in-59.is)
    c.requires.plain c.requires.feed c.range_from.ensures.value c.range_from.utf8

pub returns-in-10-clause-some : goal.returns-in-10-clause-some
returns-in-10-clause-some c =
    cuts_line c.args.text.now c.args.end c.range_from-in-10.result c.requires.inside (rw c.as_bytes.ensures.value at c.in-10.is)
    c.requires.plain c.range_from-in-10.ensures.value c.range_from-in-10.utf8
