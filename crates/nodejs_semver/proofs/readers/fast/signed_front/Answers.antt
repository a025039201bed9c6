use Rattle.nodejs_semver.proofs.Common.{arith, common_steps}
use Rattle.nodejs_semver.proofs.Bounds.TableReadings.{settled}
use Rattle.nodejs_semver.proofs.Everyday.Parts.{caret-part, tilde-part}
use Rattle.nodejs_semver.proofs.readers.fast.signed_front.Goals as goal
use Rattle.nodejs_semver.proofs.readers.fast.signed_front.Goals.{in-94, in-126}

pub ordered-requires : goal.ordered-requires
ordered-requires c = settled _ _ _ (rw c.in_ok-bounds.was at c.signed.ensures)

pub returns-clause-part : goal.returns-clause-part
returns-clause-part c = elim c.match-text.branch [
  | in-94 w ↦ grind (arith, common_steps, caret-part)
  | in-126 w ↦ grind (arith, common_steps, tilde-part)
]
