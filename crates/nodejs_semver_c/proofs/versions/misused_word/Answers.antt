use Rattle.nodejs_semver_c.proofs.Failures.{pre_late, prerelease_late}
use Rattle.nodejs_semver_c.proofs.versions.misused_word.Goals as goal

pub returns-in-prerelease : goal.returns-in-prerelease
returns-in-prerelease c = λ id base. rw c.in-prerelease.is (prerelease_late id base c.args.version.now)

pub returns-in-pre : goal.returns-in-pre
returns-in-pre c = λ id base. rw c.in-pre.is (pre_late id base c.args.version.now)
