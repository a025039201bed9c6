use Rattle.std.proofs.Common.{◌≡◌, ◌&&◌, ◌||◌, false, take}
use Rattle.std.specs.List.{list_any}
use Rattle.semver_core.specs.Cuts.{holds}
use Rattle.semver_core.specs.Values.Gate.{lets_in}
use Rattle.semver_core.specs.Values.Order.{precedence}
use Rattle.nodejs_semver_c.specs.Kept.{kept_value}
use Rattle.nodejs_semver_c.specs.KeptRanges.{kept_span}
use Rattle.nodejs_semver_c.proofs.asked.is_accepted.Given as goal

abbrev pub invariant-loop-interval : goal.invariant-loop-interval
invariant-loop-interval l = list_any (λ i. holds precedence (kept_span i) (kept_value l.version)
    && (l.include_prerelease || lets_in (kept_span i) (kept_value l.version))) (take l.interval-index l.range) ≡ false
