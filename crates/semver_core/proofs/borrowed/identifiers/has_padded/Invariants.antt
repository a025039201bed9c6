use Rattle.semver_core.proofs.Common.{drop, ◌≡◌}
use Rattle.semver_core.proofs.Printing.Padded.{behind_padded}
use Rattle.semver_core.proofs.borrowed.identifiers.has_padded.Given as goal

abbrev pub invariant-loop-at : goal.invariant-loop-at
invariant-loop-at l = behind_padded l.text ≡ behind_padded (drop l.at l.text)
