use Rattle.semver_core.proofs.Common.{ids_view, length, take, ◌≡◌, ◌≤◌, vec_capacity, vec_len}
use Rattle.semver_core.proofs.identifier.Identifier.copy_list.Given as goal

abbrev pub invariant-loop-id : goal.invariant-loop-id
invariant-loop-id l = record {
  count : vec_len l.copy ≡ l.id-index;
  room : length l.list ≤ vec_capacity l.copy;
  same : ids_view l.copy.items ≡ ids_view (take l.id-index l.list);
}
