use Rattle.std.proofs.Common.{take}
use Rattle.nodejs_semver_c.specs.Internal.Pieces.{Adds}
use Rattle.nodejs_semver_c.specs.KeptSpans.{span_bytes}
use Rattle.nodejs_semver_c.proofs.kept_spans.put_ends.Given as goal

abbrev pub invariant-loop-span : goal.invariant-loop-span
invariant-loop-span l = Adds (span_bytes (take l.span-index l.spans)) l.initial.out l.out l.initial.len l.len
