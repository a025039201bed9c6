use Rattle.nodejs_semver_c.proofs.Reading.{lists_read}
use Rattle.nodejs_semver_c.proofs.common.some_lists.Goals as goal

pub returns-then-is_empty : goal.returns-then-is_empty
returns-then-is_empty c = lists_read _ _ _ _ _ c.pre_release_front.ensures.value c.build_front.ensures.value
    (rw c.is_empty.ensures at c.if-is_empty.true) c.pre_release_front.ensures.listed c.build_front.ensures.listed
