use Rattle.semver_core.proofs.{Common.{None, Some, rules}, CutLaws.left_over}
use Rattle.semver_core.proofs.cuts.interval.Interval.subtract.Goals as goal

pub returns-then-not-meets-clause-set : goal.returns-then-not-meets-clause-set
returns-then-not-meets-clause-set g c =
    left_over g.met.V.Ord.total c.args.self.now c.args.other.now (Some c.in_ok-copy.field-0, None) (search rules)

pub returns-clause-set : goal.returns-clause-set
returns-clause-set g c =
    left_over g.met.V.Ord.total c.args.self.now c.args.other.now (c.in_ok-below.below, c.in_ok-above.above) (search rules)
