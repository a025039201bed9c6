use Rattle.nodejs_semver_c.proofs.Putting.{put_first}
use Rattle.nodejs_semver_c.proofs.print.counted.Goals as goal

pub returns : goal.returns
returns g c = (put_first _ _ _ _ c.put.ensures).counted
