use Rattle.nodejs_semver_c.proofs.Putting.{put_first}
use Rattle.nodejs_semver_c.proofs.intervals.counted_texts.Goals as goal

pub returns : goal.returns
returns c = (put_first _ _ _ _ c.put_range_texts.ensures).counted
