use Rattle.nodejs_semver.proofs.Common.{arith}
use Rattle.nodejs_semver.proofs.Dividing.RunsDivide.{join_goes, join_stops}
use Rattle.nodejs_semver.proofs.readers.intervals.meet_or_finish.Goals as goal

pub returns-in-Ok-clause-joined : goal.returns-in-Ok-clause-joined
returns-in-Ok-clause-joined c = grind (arith, join_goes)

pub returns-in_ok-add-in-Err-clause-joined : goal.returns-in_ok-add-in-Err-clause-joined
returns-in_ok-add-in-Err-clause-joined c = grind (arith, join_stops)
