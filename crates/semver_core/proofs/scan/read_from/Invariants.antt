use Rattle.semver_core.proofs.Common.{list_of, begins, is_identifier_char, Id, List, ids_view, drop, length, true, ◌++◌, ◌+◌, ◌-◌, ◌≡◌, ◌≤◌}
use Rattle.semver_core.proofs.Common.{list_len, run_from, Some}
use Rattle.semver_core.proofs.scan.read_from.Given as goal

abbrev pub invariant-runs : goal.invariant-runs
invariant-runs l = record {
  after : l.at ≤ l.start;
  inside : l.start ≤ length l.text;
  here : begins is_identifier_char (drop l.start l.text) ≡ true;
  run : l.run ≡ run_from (Some 0) l.start (drop l.start l.text);
  read : (ids : List Id) × (list_of (drop l.at l.text) ≡ ids ++ list_of (drop l.start l.text)) × (ids_view l.list.items ≡ ids_view l.initial.list.items ++ ids);
  ends : l.at + list_len (drop l.at l.text) ≡ l.start + list_len (drop l.start l.text);
}

abbrev pub decreases-runs : goal.decreases-runs
decreases-runs l = length l.text - l.start
