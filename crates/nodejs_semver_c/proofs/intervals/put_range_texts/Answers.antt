use Rattle.std.proofs.Common.{ap, take_all}
use Rattle.nodejs_semver_c.specs.KeptRanges.{range_texts}
use Rattle.nodejs_semver_c.proofs.Putting.{adds_nothing, adds_same, adds_then}
use Rattle.nodejs_semver_c.proofs.Ranging.{texts_more}
use Rattle.nodejs_semver_c.proofs.intervals.put_range_texts.Goals as goal

pub loop-interval-init : goal.loop-interval-init
loop-interval-init c = adds_nothing _ _

pub loop-interval-preserved : goal.loop-interval-preserved
loop-interval-preserved c =
    adds_same (texts_more _ _ c.interval-item.result c.loop-interval-test.true c.interval-item.is)
    (adds_then c.loop-interval.invariant
    (rw (c.lower.ensures.value, c.upper.ensures) at (adds_then c.put_bound_texts.ensures c.put_bound_texts-in-loop-interval.ensures)))

pub returns : goal.returns
returns c = adds_same (ap range_texts (take_all _ c.args.intervals.now c.loop-interval-test.false)) c.loop-interval.invariant
