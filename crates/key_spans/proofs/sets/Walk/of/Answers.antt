use Rattle.std.proofs.Common.{sym}
use Rattle.key_spans.proofs.Ends.{even_ends}
use Rattle.key_spans.specs.Internal.Pieces.{stretches}
use Rattle.key_spans.proofs.sets.Walk.of.Goals as goal

pub invariant_of-result : goal.invariant_of-result
invariant_of-result c = sym (even_ends (stretches c.args.spans.now))
