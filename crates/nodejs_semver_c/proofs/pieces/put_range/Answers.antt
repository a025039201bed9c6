use Rattle.std.proofs.Common.{ap, refl, rules, take_all}
use Rattle.nodejs_semver.specs.Printing.Text.{range_text}
use Rattle.nodejs_semver_c.proofs.Printing.{bars_step, joined_step}
use Rattle.nodejs_semver_c.proofs.Putting.{adds_nothing, adds_same, adds_then}
use Rattle.nodejs_semver_c.proofs.pieces.put_range.Goals as goal

pub loop-interval-init : goal.loop-interval-init
loop-interval-init c = (search rules, refl, adds_nothing _ _)

pub loop-interval-preserved : goal.loop-interval-preserved
loop-interval-preserved c =
    let i = c.loop-interval.interval-index in (
      search rules,
      bars_step _ i c.interval-item.result c.loop-interval-test.true c.interval-item.is,
      adds_same (joined_step _ _ i _ _ c.loop-interval-test.true c.loop-interval.invariant.1 c.interval-item.is)
          (adds_then c.loop-interval.invariant.2 (adds_then c.put.ensures c.put_interval.ensures)),
    )

pub returns : goal.returns
returns c =
    adds_same (ap range_text (take_all _ c.args.intervals.now c.loop-interval-test.false)) c.loop-interval.invariant.2
