use Rattle.npm_semver.proofs.Answered.{is_behind}
use Rattle.npm_semver.proofs.subcommands.versions.behind.Goals as goal

pub returns-in-text-clause-ok : goal.returns-in-text-clause-ok
returns-in-text-clause-ok c = is_behind _ _ c.in-text.is
