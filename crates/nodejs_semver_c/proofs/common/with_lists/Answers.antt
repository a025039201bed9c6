use Rattle.nodejs_semver_c.proofs.Reading.{common_is}
use Rattle.nodejs_semver_c.proofs.common.with_lists.Goals as goal

pub returns : goal.returns
returns c text at = common_is text _ _ _ c.args.release.now at c.in_ok-pre_release.ensures
