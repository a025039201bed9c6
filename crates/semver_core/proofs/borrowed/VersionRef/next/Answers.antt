use Rattle.semver_core.proofs.Increments.Memory.{answered}
use Rattle.semver_core.proofs.borrowed.VersionRef.next.Goals as goal

pub returns-clause-memory : goal.returns-clause-memory
returns-clause-memory c = rw (← c.of_ref.ensures) (answered (λ next. ⊥) _ _ c.next_of.ensures)
