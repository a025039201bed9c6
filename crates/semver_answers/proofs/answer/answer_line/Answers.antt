use Rattle.std.proofs.Common.{refl}
use Rattle.std.proofs.lemmas.Result.{on_ok_weaker}
use Rattle.semver_answers.specs.Answers.{no_question}
use Rattle.semver_answers.proofs.Firsts.{whole_utf8}
use Rattle.semver_answers.proofs.answer.answer_line.Goals as goal

pub returns-in-Err-clause-ok : goal.returns-in-Err-clause-ok
returns-in-Err-clause-ok c =
    on_ok_weaker c.put.result (λ grown. record { answer = _; is_answer = no_question (λ question asks. c.in-Err.ensures.cases.0 (whole_utf8 c.args.line.now c.requires.feed c.requires.last asks.0)) refl; grown = rw c.line.ensures at grown }) c.put.ensures.ok
