use Rattle.semver_answers.proofs.Firsts.{before_mark}
use Rattle.std.proofs.lemmas.Str.{IsCharBoundary-before_ascii}
use Rattle.semver_answers.proofs.fields.cut_word.Goals as goal

pub range-requires-clause-end_boundary : goal.range-requires-clause-end_boundary
range-requires-clause-end_boundary c =
    let word = c.bytes.invariant in
    let inside = before_mark c.args.text.now c.bytes.end c.requires word.0 word.1 in
    IsCharBoundary-before_ascii c.args.text.now c.bytes.end inside c.in-Some.ensures.low
