use Rattle.key_spans.proofs.OneSpan.{one_span}
use Rattle.key_spans.proofs.laws.one_span_for_one_version.Goals as goal

pub returns : goal.returns
returns c = one_span
