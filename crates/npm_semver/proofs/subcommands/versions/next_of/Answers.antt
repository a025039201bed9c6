use Rattle.npm_semver.proofs.Answered.{nexts}
use Rattle.npm_semver.proofs.subcommands.versions.next_of.Goals as goal

pub returns-clause-ok : goal.returns-clause-ok
returns-clause-ok c = nexts _ _ _ _ _ _ c.in_ok-version.ensures.ok c.in_ok-identifier.ensures.ok c.in_ok-raised.ensures
