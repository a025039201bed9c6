use Rattle.semver_answers.proofs.Asked.{out_more}
use Rattle.semver_answers.proofs.Behind.{several}
use Rattle.semver_answers.proofs.question.AboutMatch.outside.Goals as goal

pub returns-in_default-clause-none : goal.returns-in_default-clause-none
returns-in_default-clause-none c = λ r v. out_more r v (several c.cut_word.ensures c.in_default.is)
