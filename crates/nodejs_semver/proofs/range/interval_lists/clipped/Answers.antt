use Rattle.nodejs_semver.proofs.Common.{[], flat_behind, refl}
use Rattle.nodejs_semver.proofs.range.interval_lists.clipped.Goals as goal

pub loop-interval-preserved : goal.loop-interval-preserved
loop-interval-preserved g c = flat_behind _ c.args.these.now _ c.interval-item.result [] _ _ _ c.loop-interval-test.true
    c.interval-item.is refl c.loop-interval.invariant c.in_ok-push_clipped.ensures
