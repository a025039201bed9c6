use Rattle.nodejs_semver.proofs.{Common.{IfOk-weaker, ap, arith, common_steps, length, nat_tests, on_err, refl, sym, take_all, ◌∙◌}, Questions.Unions.{copy-same}}
use Rattle.nodejs_semver.proofs.Questions.Unions.{none-list, some-list, some-same, some-shorter, taken_at, used-taking, used-valid}
use Rattle.nodejs_semver.proofs.Values.{taking-values}
use Rattle.nodejs_semver.proofs.range.RangeOf.simplify.Goals as goal

pub loop-interval-preserved : goal.loop-interval-preserved
loop-interval-preserved g c = grind (arith, nat_tests, common_steps)

pub returns-in_err-push_copy-clause-memory : goal.returns-in_err-push_copy-clause-memory
returns-in_err-push_copy-clause-memory g c =
    let memory = rw c.new-used.ensures.items at (taken_at _ _ _ _ _ _ _ c.loop-interval-test.true c.interval-item.is
    (sym c.is_used.ensures ∙ c.if-is_used.true) c.loop-interval.invariant.1 c.in_err-push_copy.ensures.memory) in
    on_err _ (taking-values g.V.Point.takes g.V.Versioned.value g.met.V.VersionPoint.copied _ _
    (used-taking g.V.Versioned.value g.W.Versioned.value c.args.versions.now _ _ _ c.items-intervals.ensures.value refl g.V.Point.takes memory)
    memory)

pub of_intervals-requires : goal.of_intervals-requires
of_intervals-requires g c =
    let whole = rw (take_all _ c.items-intervals.result.now c.loop-interval-test.false, c.new-used.ensures.items) at c.loop-interval.invariant.1 in
    let valid = used-valid g.V.Versioned.value g.W.Versioned.value c.args.versions.now _ _ _ c.items-intervals.ensures.value
    whole _ c.items-intervals.ensures.valid in
    (omega arith, (omega arith, valid))

pub returns-in-Some : goal.returns-in-Some
returns-in-Some g c =
    let items = rw (take_all _ c.items-intervals.result.now c.loop-interval-test.false, c.new-used.ensures.items) at c.loop-interval.invariant.1 in
    let v = g.V.Versioned.value in
    let w = g.W.Versioned.value in record {
      list = some-list v w c.args.versions.now _ _ _ c.items-intervals.ensures.value items _ c.in-Some.ensures;
      same = some-same v w c.args.versions.now _ _ _ c.items-intervals.ensures.value items _ c.in-Some.ensures;
      shorter = some-shorter v w c.args.versions.now _ _ _ c.items-intervals.ensures.value items _ c.in-Some.ensures;
      memory = tt;
    }

pub returns-in-None : goal.returns-in-None
returns-in-None g c =
    let items = rw (take_all _ c.items-intervals.result.now c.loop-interval-test.false, c.new-used.ensures.items) at c.loop-interval.invariant.1 in
    let none = none-list g.V.Versioned.value g.W.Versioned.value c.args.versions.now _ _ _ c.items-intervals.ensures.value items c.in-None.ensures in
    record {
      list = IfOk-weaker c.copy.result _ _ (λ r e. e ∙ none) c.copy.ensures.whole;
      same = IfOk-weaker c.copy.result _ _ (λ r e. copy-same r c.args.self.now _ e) c.copy.ensures.whole;
      shorter = IfOk-weaker c.copy.result _ _ (λ r e. omega (arith, ap length e)) c.copy.ensures.whole;
      memory = rw (sym none) c.copy.ensures.memory;
    }
