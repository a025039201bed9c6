use Rattle.std.proofs.Common.{◌≡◌, take, true}
use Rattle.std.specs.List.{list_all}
use Rattle.nodejs_semver_c.specs.Internal.Keeps.{lies_opposite}
use Rattle.nodejs_semver_c.specs.Kept.{kept_value}
use Rattle.nodejs_semver_c.specs.KeptRanges.{kept_span}
use Rattle.nodejs_semver_c.specs.Numbers.{side_of}
use Rattle.nodejs_semver_c.proofs.asked.is_outside.Given as goal

abbrev pub invariant-loop-interval : goal.invariant-loop-interval
invariant-loop-interval l = list_all (λ i. lies_opposite (side_of l.above) (kept_value l.version) (kept_span i))
    (take l.interval-index l.range) ≡ true
