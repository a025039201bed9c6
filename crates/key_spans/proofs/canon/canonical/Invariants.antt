use Rattle.std.proofs.Common.{◌≡◌, []}
use Rattle.std.specs.Cmp.Lexicographic.{slice_cmp}
use Rattle.std.specs.List.{fold}
use Rattle.std.specs.Ordering.{nat_cmp}
use Rattle.key_spans.specs.Internal.Sets.{joined}
use Rattle.key_spans.proofs.canon.canonical.Given as goal

abbrev pub invariant-loop-part : goal.invariant-loop-part
invariant-loop-part l = l.found.items ≡ fold (joined (slice_cmp nat_cmp)) [] l.yielded
