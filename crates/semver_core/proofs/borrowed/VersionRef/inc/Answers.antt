use Rattle.semver_core.proofs.Common.{Err, HasIdentifiers, rules, ◌≡◌}
use Rattle.semver_core.proofs.Increments.Memory.{answered}
use Rattle.semver_core.proofs.borrowed.VersionRef.inc.Goals as goal

pub returns-in_err-next-clause-memory : goal.returns-in_err-next-clause-memory
returns-in_err-next-clause-memory c =
    let same : c.from_residual.result ≡ Err c.in_err-next.field-0.0 = search rules in
    rw (same, ← c.of_ref.ensures) (answered HasIdentifiers _ (Err c.in_err-next.field-0.0) c.in_err-next.ensures)
