use Rattle.nodejs_semver_c.proofs.Putting.{adds_after, adds_length}
use Rattle.nodejs_semver_c.proofs.intervals.tell_list.Goals as goal

pub overflow_sub-result : goal.overflow_sub-result
overflow_sub-result c = (adds_after _ _ _ _ _ c.put_ids.ensures c.requires).0

pub returns-clause-size : goal.returns-clause-size
returns-clause-size c = adds_length _ _ _ _ _ c.put_ids.ensures c.requires

pub returns-clause-len : goal.returns-clause-len
returns-clause-len c = adds_after _ _ _ _ _ c.put_ids.ensures c.requires
