use Rattle.std.proofs.Common.{◌≡◌, false, map, take}
use Rattle.std.specs.List.{list_any}
use Rattle.std.specs.Prelude.{is_some}
use Rattle.semver_core.specs.Cuts.{meet}
use Rattle.semver_core.specs.Values.Order.{precedence}
use Rattle.nodejs_semver_c.specs.KeptRanges.{kept_span}
use Rattle.nodejs_semver_c.proofs.asked.have_common.Given as goal

abbrev pub invariant-loop-interval : goal.invariant-loop-interval
invariant-loop-interval l = list_any (λ i. list_any (λ t. is_some (meet precedence (kept_span i) t)) (map kept_span l.other))
    (take l.interval-index l.range) ≡ false
