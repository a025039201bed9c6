use Rattle.semver_core.proofs.Common.{Some, drop, ◌≡◌, run_from}
use Rattle.semver_core.proofs.scan.mixed_run.Given as goal

abbrev pub invariant-digits : goal.invariant-digits
invariant-digits l = run_from (Some 0) l.start (drop l.start l.bytes) ≡ run_from (Some l.number) l.end (drop l.end l.bytes)
