use Rattle.nodejs_semver.proofs.Common.{rules, subst, take_all}
use Rattle.nodejs_semver.proofs.Questions.Index.{entries_further}
use Rattle.std.specs.List.Sorted.{IsPermutation}
use Rattle.nodejs_semver.proofs.range.index.Index.of.Goals as goal

pub loop-interval-preserved : goal.loop-interval-preserved
loop-interval-preserved g c = entries_further g.V.Versioned.value c.args.intervals.now c.loop-interval.interval-index c.interval-item.result
    c.loop-interval.releases.items c.loop-interval.pre_releases.items _ _ c.loop-interval-test.true c.interval-item.is c.loop-interval.invariant.0 c.loop-interval.invariant.1
    (search rules) (search rules)

pub returns : goal.returns
returns g c = (
  subst (λ es. IsPermutation es c.in_ok-releases.releases) (rw (take_all _ c.args.intervals.now c.loop-interval-test.false) at c.loop-interval.invariant.0) c.in_ok-releases.ensures,
  subst (λ es. IsPermutation es c.in_ok-pre_releases.pre_releases) (rw (take_all _ c.args.intervals.now c.loop-interval-test.false) at c.loop-interval.invariant.1) c.in_ok-pre_releases.ensures,
)
