use Rattle.std.proofs.Common.{◌≡◌, take}
use Rattle.lock_check.specs.Findings.{count_of}
use Rattle.lock_check.proofs.finding.count.Given as goal

abbrev pub invariant-loop-finding : goal.invariant-loop-finding
invariant-loop-finding l = l.count ≡ count_of l.kind (take l.finding-index l.findings)
