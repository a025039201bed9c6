use Rattle.npm_semver.proofs.Answered.{is_joined}
use Rattle.npm_semver.proofs.subcommands.versions.joined.Goals as goal

pub returns-in-Some-clause-ok : goal.returns-in-Some-clause-ok
returns-in-Some-clause-ok c = let (n, (eight, cut, rest), behind, all) = c.in-Some.ensures.cases in is_joined _ _ _ cut behind
