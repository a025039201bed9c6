use Rattle.std.proofs.Common.{◌≡◌, false, take}
use Rattle.std.specs.List.{list_any}
use Rattle.npm_semver.specs.Internal.Texts.{is_no_version}
use Rattle.npm_semver.proofs.refusal.first_lacking.Given as goal

abbrev pub invariant-loop-reason : goal.invariant-loop-reason
invariant-loop-reason l = list_any is_no_version (take l.reason-index l.left_out) ≡ false
