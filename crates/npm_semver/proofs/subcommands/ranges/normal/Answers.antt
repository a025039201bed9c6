use Rattle.npm_semver.specs.Subcommands as Spec
use Rattle.npm_semver.proofs.subcommands.ranges.normal.Goals as goal

pub returns-clause-ok : goal.returns-clause-ok
returns-clause-ok c = Spec.range _ _ _ c.in_ok-read_range.ensures.ok c.in_ok-shown.ensures
