use Rattle.nodejs_semver.proofs.Diagnosing.OneFlaw.{no_flaw, one_flaw}
use Rattle.nodejs_semver.proofs.laws.diagnosis.one_flaw.Goals as goal

pub returns : goal.returns
returns c = record { one = one_flaw; exact = no_flaw }
