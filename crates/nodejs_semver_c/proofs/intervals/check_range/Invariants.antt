use Rattle.std.proofs.Common.{◌≡◌, take, true}
use Rattle.std.specs.List.{list_all}
use Rattle.nodejs_semver_c.specs.Internal.Keeps.{keeps}
use Rattle.nodejs_semver_c.proofs.intervals.check_range.Given as goal

abbrev pub invariant-loop-interval : goal.invariant-loop-interval
invariant-loop-interval l = list_all keeps (take l.interval-index l.range) ≡ true
