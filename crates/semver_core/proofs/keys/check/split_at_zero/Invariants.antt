use Rattle.std.proofs.Common.{◌≡◌, ◌==◌, ◌≤◌, ◌-◌, length, not, take, true}
use Rattle.semver_core.specs.Words.{list_all}
use Rattle.semver_core.proofs.keys.check.split_at_zero.Given as goal

abbrev pub invariant-bytes : goal.invariant-bytes
invariant-bytes l = record {
  none : list_all (λ c. not (c == 0)) (take l.at l.bytes) ≡ true;
  within : l.at ≤ length l.bytes;
}

abbrev pub decreases-bytes : goal.decreases-bytes
decreases-bytes l = length l.bytes - l.at
