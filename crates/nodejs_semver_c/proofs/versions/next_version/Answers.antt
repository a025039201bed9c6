use Rattle.std.proofs.Common.{inl, refl}
use Rattle.nodejs_semver_c.proofs.Failures.{fails_memory}
use Rattle.nodejs_semver_c.proofs.versions.next_version.Goals as goal

pub returns-in-Err-Refused-clause-refused : goal.returns-in-Err-Refused-clause-refused
returns-in-Err-Refused-clause-refused c =
    let returned = rw c.in-Err-Refused.field-0-is at c.in-Err-Refused.ensures.value in
    rw (returned, c.status_of.ensures) (inl refl)

pub returns-in-Err-Memory-clause-refused : goal.returns-in-Err-Memory-clause-refused
returns-in-Err-Memory-clause-refused c =
    rw c.unwrap_or.ensures (fails_memory _ c.misuse.result (rw c.in-Err-Memory.field-0-is at c.in-Err-Memory.ensures.memory) c.misuse.ensures)
