use Rattle.npm_semver.proofs.Answered.{differing}
use Rattle.npm_semver.proofs.subcommands.versions.difference.Goals as goal

pub returns-clause-ok : goal.returns-clause-ok
returns-clause-ok c =
    differing _ _ _ _ _ _ c.in_ok-one.ensures.ok c.in_ok-other.ensures.ok c.diff.ensures.value c.in_ok-kind.ensures
