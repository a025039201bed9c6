use Rattle.std.proofs.Common.{refl}
use Rattle.semver_answers.specs.Answers.{no_question}
use Rattle.semver_answers.specs.Internal.Ahead.{first_line}
use Rattle.semver_answers.proofs.Asked.{unknown}
use Rattle.semver_answers.proofs.Firsts.{line_utf8}
use Rattle.semver_answers.proofs.Replies.{answers_line, told_weaker}
use Rattle.semver_answers.proofs.reply.reply.Goals as goal

pub returns-in_default-clause-told : goal.returns-in_default-clause-told
returns-in_default-clause-told c =
    (refl, no_question (λ question asks. unknown c.args.text.now c.requires c.in_default.ensures.none question asks.1) refl)

pub returns-clause-told : goal.returns-clause-told
returns-clause-told c =
    told_weaker _ _ c.reply_to.result _ _
    (λ reply. answers_line (first_line c.args.text.now) _ reply (line_utf8 c.args.text.now c.requires c.utf8.text) c.in-Some.ensures.some) c.reply_to.ensures.told
