use Rattle.std.proofs.Common.{ap, take_all}
use Rattle.nodejs_semver_c.specs.KeptSpans.{span_bytes}
use Rattle.nodejs_semver_c.proofs.Putting.{adds_nothing, adds_same, adds_then}
use Rattle.nodejs_semver_c.proofs.Spanning.{bytes_more}
use Rattle.nodejs_semver_c.proofs.kept_spans.put_ends.Goals as goal

pub loop-span-init : goal.loop-span-init
loop-span-init c = adds_nothing _ _

pub loop-span-preserved : goal.loop-span-preserved
loop-span-preserved c =
    adds_same (bytes_more _ _ c.span-item.result c.loop-span-test.true c.span-item.is)
    (adds_then c.loop-span.invariant (adds_then c.put_key.ensures c.put_key-in-loop-span.ensures))

pub returns : goal.returns
returns c = adds_same (ap span_bytes (take_all _ c.args.spans.now c.loop-span-test.false)) c.loop-span.invariant
