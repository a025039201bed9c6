use Rattle.npm_semver.specs.Subcommands as Spec
use Rattle.npm_semver.proofs.subcommands.Subcommand.reply.Goals as goal

pub returns-in-Ok : goal.returns-in-Ok
returns-in-Ok c = Spec.answered _ c.in-Ok.ensures.ok c.in-Ok.ensures.ascii

pub returns-in-Err-Refused : goal.returns-in-Err-Refused
returns-in-Err-Refused c =
    rw c.new.ensures.bytes (Spec.malformed _ (rw c.in-Err-Refused.field-0-is at c.in-Err-Refused.ensures.refused))
