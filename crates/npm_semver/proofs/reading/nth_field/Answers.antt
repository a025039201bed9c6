use Rattle.std.proofs.Common.{rules}
use Rattle.npm_semver.proofs.Fields.{nth_is}
use Rattle.npm_semver.proofs.reading.nth_field.Goals as goal

pub returns : goal.returns
returns c = nth_is _ c.in_ok-before.before _ _ _ (search rules) c.utf8.text (search rules) c.text_front.ensures.whole
