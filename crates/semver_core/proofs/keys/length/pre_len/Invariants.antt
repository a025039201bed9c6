use Rattle.std.proofs.Common.{◌≡◌, ◌+◌, ◌-◌, ◌^◌, length, min}
use Rattle.semver_core.specs.Keys.{ids_key}
use Rattle.semver_core.proofs.keys.length.pre_len.Given as goal

abbrev pub invariant-ids : goal.invariant-ids
invariant-ids l = min (l.len + length (ids_key l.others)) (2 ^ 64 - 1) ≡ min (length (ids_key l.initial.others)) (2 ^ 64 - 1)

abbrev pub decreases-ids : goal.decreases-ids
decreases-ids l = length l.others
