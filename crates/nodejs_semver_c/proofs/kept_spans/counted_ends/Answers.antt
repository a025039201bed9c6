use Rattle.nodejs_semver_c.proofs.Putting.{put_first}
use Rattle.nodejs_semver_c.proofs.kept_spans.counted_ends.Goals as goal

pub returns : goal.returns
returns c = (put_first _ _ _ _ c.put_ends.ensures).counted
