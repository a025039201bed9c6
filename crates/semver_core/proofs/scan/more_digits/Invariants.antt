use Rattle.semver_core.proofs.Common.{MAX_SAFE_INTEGER, drop, length, ◌-◌, ◌<◌, ◌≡◌, ◌≤◌, digits_from}
use Rattle.semver_core.proofs.scan.more_digits.Given as goal

abbrev pub invariant-digits : goal.invariant-digits
invariant-digits g l = record {
  from : l.at < l.end;
  place : g.R.Reach.stands l.bytes l.end;
  small : l.value ≤ MAX_SAFE_INTEGER;
  reads : digits_from MAX_SAFE_INTEGER l.front (l.next - l.at) (drop l.next l.bytes) ≡ digits_from MAX_SAFE_INTEGER l.value (l.end - l.at) (drop l.end l.bytes);
}

abbrev pub decreases-digits : goal.decreases-digits
decreases-digits g l = length l.bytes - l.end
