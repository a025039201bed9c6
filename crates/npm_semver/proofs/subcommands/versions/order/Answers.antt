use Rattle.npm_semver.proofs.Answered.{ordered}
use Rattle.npm_semver.proofs.subcommands.versions.order.Goals as goal

pub returns-clause-ok : goal.returns-clause-ok
returns-clause-ok c =
    ordered _ _ _ _ _ _ c.in_ok-one.ensures.ok c.in_ok-other.ensures.ok c.cmp.ensures c.in_ok-sign.ensures
