use Rattle.npm_semver.proofs.Answered.{tested}
use Rattle.npm_semver.proofs.subcommands.versions.test.Goals as goal

pub returns-clause-ok : goal.returns-clause-ok
returns-clause-ok c =
    tested _ _ _ _ _ _ _ _ _ c.in_ok-one.ensures.ok c.in_ok-other.ensures.ok c.cmp.ensures c.in-Some.ensures c.holds.ensures c.bare.ensures
