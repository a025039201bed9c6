use Rattle.std.proofs.Common.{refl}
use Rattle.semver_core.specs.Text.Identifiers as id
use Rattle.key_spans.proofs.marks.lowest.Goals as goal

pub from_texts-requires-clause-pre_release : goal.from_texts-requires-clause-pre_release
unfolding id.is_listed
from_texts-requires-clause-pre_release c = refl

pub from_texts-requires-clause-build : goal.from_texts-requires-clause-build
unfolding id.is_listed
from_texts-requires-clause-build c = refl

pub returns : goal.returns
unfolding id.listed
returns c = c.from_texts.ensures
