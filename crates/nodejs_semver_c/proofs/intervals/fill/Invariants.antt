use Rattle.std.proofs.Common.{◌≡◌, map, take, true}
use Rattle.std.specs.List.{list_all}
use Rattle.nodejs_semver_c.specs.Internal.Keeps.{keeps}
use Rattle.nodejs_semver_c.specs.KeptRanges.{kept_span}
use Rattle.nodejs_semver_c.proofs.intervals.fill.Given as goal

abbrev pub invariant-loop-interval : goal.invariant-loop-interval
invariant-loop-interval l = (l.list.items ≡ map kept_span (take l.interval-index l.intervals))
    × (l.list.capacity ≡ l.initial.list.capacity) × (list_all keeps (take l.interval-index l.intervals) ≡ true)
