use Rattle.key_spans.proofs.OneRange.{one_range}
use Rattle.key_spans.proofs.laws.one_range_for_one_set.Goals as goal

pub returns : goal.returns
returns c = one_range
