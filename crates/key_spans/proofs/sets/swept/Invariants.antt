use Rattle.std.proofs.Common.{length, ◌+◌}
use Rattle.std.specs.Cmp.Lexicographic.{slice_cmp}
use Rattle.std.specs.Ordering.{nat_cmp}
use Rattle.key_spans.proofs.Ends.{IsMiddle}
use Rattle.key_spans.specs.Internal.Ends.{ends, keeps}
use Rattle.key_spans.specs.Internal.Pieces.{stretches}
use Rattle.key_spans.proofs.sets.swept.Given as goal

abbrev pub invariant-ends : goal.invariant-ends
invariant-ends l = IsMiddle (slice_cmp nat_cmp) (keeps l.fn.operation) (ends (stretches l.fn.first)) (ends (stretches l.fn.second))
    l.one l.other l.found

abbrev pub decreases-ends : goal.decreases-ends
decreases-ends l = length l.one + length l.other
