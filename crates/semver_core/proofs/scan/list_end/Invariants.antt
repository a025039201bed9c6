use Rattle.semver_core.proofs.Common.{drop, length, ◌+◌, ◌-◌, ◌≡◌, list_len}
use Rattle.semver_core.proofs.scan.list_end.Given as goal

abbrev pub invariant-bytes : goal.invariant-bytes
invariant-bytes g l = record {
  place : g.R.Reach.stands l.bytes l.end;
  same : l.start + list_len (drop l.start l.bytes) ≡ l.end + list_len (drop l.end l.bytes);
}

abbrev pub decreases-bytes : goal.decreases-bytes
decreases-bytes g l = length l.bytes - l.end
