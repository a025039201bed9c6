use Rattle.npm_semver.proofs.Outcomes.{request_outcome, subcommand_outcome}
use Rattle.npm_semver.proofs.command.Command.answer.Goals as goal

pub returns-in_ok-reply-in-Subcommand : goal.returns-in_ok-reply-in-Subcommand
returns-in_ok-reply-in-Subcommand c =
    subcommand_outcome c.of_reply.result _ _ _ _ _ _ c.in-Subcommand.is c.in_ok-reply-in-Subcommand.ensures c.of_reply.ensures

pub returns-in_ok-respond-in-Request : goal.returns-in_ok-respond-in-Request
returns-in_ok-respond-in-Request c = request_outcome c.of_response.result _ _ _ _ _ _ _ c.in-Request.is c.in_ok-request-in-Request.ensures
    c.in_ok-respond-in-Request.ensures.response c.in_ok-respond-in-Request.ensures.told c.of_response.ensures
