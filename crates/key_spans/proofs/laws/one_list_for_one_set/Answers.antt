use Rattle.key_spans.proofs.OneSet.{one_list}
use Rattle.key_spans.proofs.laws.one_list_for_one_set.Goals as goal

pub returns : goal.returns
returns c = one_list
