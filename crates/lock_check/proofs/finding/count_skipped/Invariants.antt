use Rattle.std.proofs.Common.{◌≡◌, take}
use Rattle.lock_check.specs.Findings.{skipped_for}
use Rattle.lock_check.proofs.finding.count_skipped.Given as goal

abbrev pub invariant-loop-finding : goal.invariant-loop-finding
invariant-loop-finding l = l.count ≡ skipped_for l.skip (take l.finding-index l.findings)
