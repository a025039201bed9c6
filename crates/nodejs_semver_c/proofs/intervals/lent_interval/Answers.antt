use Rattle.nodejs_semver_c.proofs.Asking.{keeps_interval}
use Rattle.nodejs_semver_c.proofs.intervals.lent_interval.Goals as goal

pub of_ordered-requires : goal.of_ordered-requires
of_ordered-requires c = rw (c.lent_lower.ensures, c.lent_upper.ensures) (keeps_interval c.args.interval.now c.requires)
