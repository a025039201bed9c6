use Rattle.std.proofs.Common.{◌≡◌, false, take}
use Rattle.std.specs.List.{list_any}
use Rattle.std.specs.Prelude.{is_some}
use Rattle.semver_core.specs.Cuts.{meet}
use Rattle.semver_core.specs.Values.Order.{precedence}
use Rattle.nodejs_semver_c.specs.KeptRanges.{kept_span}
use Rattle.nodejs_semver_c.proofs.asked.meets_some.Given as goal

abbrev pub invariant-loop-other : goal.invariant-loop-other
invariant-loop-other l = list_any (λ j. is_some (meet precedence (kept_span l.interval) (kept_span j))) (take l.other-index l.others) ≡ false
