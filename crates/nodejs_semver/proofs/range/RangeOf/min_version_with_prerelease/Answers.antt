use Rattle.nodejs_semver.proofs.Common.{IsLeastOf, None, accepts, arith, better, common_steps, least_of, on_err, spans_of, subst, sym, true, ◌≡◌}
use Rattle.nodejs_semver.proofs.{Questions.Spans.{begins_after, held_allocates, held_further, lower_raisable}, Questions.Least.{firsts_past, least_held, held_bare}}
use Rattle.nodejs_semver.proofs.range.RangeOf.min_version_with_prerelease.Goals as goal

pub consider_first-requires-clause-raisable : goal.consider_first-requires-clause-raisable
consider_first-requires-clause-raisable g c =
    lower_raisable g.V.Versioned.value c.items-intervals.result.now _ c.interval-item.result c.loop-interval-test.true
    c.interval-item.is _ c.items-intervals.ensures.valid c.items-intervals.ensures.value _ c.lower.ensures.value

pub returns-in_err-consider_first-clause-memory : goal.returns-in_err-consider_first-clause-memory
returns-in_err-consider_first-clause-memory g c =
    on_err _ (held_allocates c.args.self.now (begins_after g.V.Versioned.value c.items-intervals.result.now _ c.interval-item.result c.loop-interval-test.true
    c.interval-item.is _ c.items-intervals.ensures.value _ c.lower.ensures.value c.in_err-consider_first.ensures.memory))

pub returns : goal.returns
returns g c =
    let ss = c.args.self.now in
    let found : c.loop-interval.best ≡ least_of (λ v. accepts ss v true) (firsts_past ss) = grind (arith, common_steps) in record {
      least = subst (IsLeastOf (λ v. accepts ss v true)) (sym found) (least_held ss);
      build = held_bare ss _ found;
      memory = tt;
    }

pub loop-interval-preserved : goal.loop-interval-preserved
loop-interval-preserved g c = held_further g.V.Versioned.value (better (λ v. accepts (spans_of g.V.Versioned.value c.items-intervals.result.now) v true))
    c.items-intervals.result.now c.loop-interval.interval-index c.interval-item.result c.loop-interval-test.true c.interval-item.is
    None _ _ c.loop-interval.invariant
    (rw (c.lower.ensures.value, sym c.items-intervals.ensures.value) at c.in_ok-consider_first.ensures.best)
