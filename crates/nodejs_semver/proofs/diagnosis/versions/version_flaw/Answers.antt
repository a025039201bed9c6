use Rattle.nodejs_semver.proofs.Common.{MAX_SAFE_INTEGER}
use Rattle.nodejs_semver.proofs.Diagnosing.Flaws.{decided_only}
use Rattle.nodejs_semver.proofs.diagnosis.versions.version_flaw.Goals as goal

pub returns-clause-only : goal.returns-clause-only
returns-clause-only c = decided_only MAX_SAFE_INTEGER c.args.text.now c.flaw_within.result c.flaw_within.ensures
