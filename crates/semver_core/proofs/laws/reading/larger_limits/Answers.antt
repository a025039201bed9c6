use Rattle.semver_core.proofs.Text.Fronts.{keeps_version}
use Rattle.semver_core.proofs.laws.reading.larger_limits.Goals as goal

pub returns-clause-same : goal.returns-clause-same
returns-clause-same c = keeps_version c.args.text.now c.one_reading.ensures
