use Rattle.nodejs_semver.proofs.Common.{[], ap₂, sym, ◌++◌, ◌∙◌, ◌∷◌}
use Rattle.std.proofs.lemmas.List.{take_more}
use Rattle.nodejs_semver.proofs.range.owned.owned_intervals.Goals as goal

pub loop-interval-preserved : goal.loop-interval-preserved
loop-interval-preserved c = (
  c.push_reserved.ensures.items ∙ ap₂ (λ l x. l ++ x ∷ []) c.loop-interval.invariant.0 (c.in_ok-owned_interval.ensures.whole ∙ c.interval-item.is)
      ∙ sym (take_more c.args.intervals.now c.loop-interval.interval-index c.interval-item.result c.loop-interval-test.true),
  rw c.push_reserved.ensures.capacity c.loop-interval.invariant.1,
)
