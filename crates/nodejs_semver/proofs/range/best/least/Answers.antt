use Rattle.nodejs_semver.proofs.Common.{accepts, arith, spans_of, take_all}
use Rattle.nodejs_semver.proofs.Questions.Best.{min_further, min_version}
use Rattle.nodejs_semver.proofs.range.best.least.Goals as goal

pub loop-version-preserved : goal.loop-version-preserved
loop-version-preserved g c = min_further g.W.Versioned.value (λ v. accepts (spans_of g.V.Versioned.value c.args.intervals.now) v c.args.include)
    c.args.versions.now _ c.version-item.result _ _ _ c.loop-version-test.true c.version-item.is
    (grind arith) c.is_new_min.ensures c.loop-version.invariant

pub returns : goal.returns
returns g c =
    let element = rw (take_all _ c.args.versions.now c.loop-version-test.false) at c.loop-version.invariant in
    record {
      best = min_version g.W.Versioned.value (λ v. accepts (spans_of g.V.Versioned.value c.args.intervals.now) v c.args.include)
          c.args.versions.now _ element;
      element = element;
    }
