use Rattle.std.proofs.Common.{ap, arith, length}
use Rattle.semver_answers.proofs.Asked.{inc_more}
use Rattle.semver_answers.proofs.Behind.{several, three}
use Rattle.semver_answers.proofs.question.AboutVersion.increment.Goals as goal

pub returns-in_default-clause-none : goal.returns-in_default-clause-none
returns-in_default-clause-none c = λ v.
    let two = three c.cut_word.ensures c.in-Fields.is c.cut_word-2.ensures c.in-Fields-behind.is in
    inc_more v (omega (arith, ap length two, several c.cut_word-3.ensures c.in_default.is))
