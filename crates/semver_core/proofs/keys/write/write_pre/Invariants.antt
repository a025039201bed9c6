use Rattle.std.proofs.Common.{◌≡◌, ◌≤◌, ◌+◌, ◌++◌, length, vec_capacity, vec_len}
use Rattle.semver_core.specs.Keys.{ids_key}
use Rattle.semver_core.proofs.keys.write.write_pre.Given as goal

abbrev pub invariant-ids : goal.invariant-ids
invariant-ids l = record {
  items : l.key.items ++ ids_key l.others ≡ l.initial.key.items ++ ids_key l.initial.others;
  len : vec_len l.key + length (ids_key l.others) ≡ vec_len l.initial.key + length (ids_key l.initial.others);
  room : vec_len l.key + length (ids_key l.others) ≤ vec_capacity l.key;
  capacity : vec_capacity l.initial.key ≤ vec_capacity l.key;
}

abbrev pub decreases-ids : goal.decreases-ids
decreases-ids l = length l.others
