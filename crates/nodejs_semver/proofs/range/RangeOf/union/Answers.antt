use Rattle.nodejs_semver.proofs.{Common.{accepts, ap, arith, not, on_err, refl, sym, take_all, ◌∙◌}, Questions.Unions.{goes_behind, more-taking, stays_behind}}
use Rattle.nodejs_semver.proofs.{Questions.Unions.{taken_at, union-accepts, union-made, union-valid}, Values.taking-values}
use Rattle.nodejs_semver.proofs.range.RangeOf.union.Goals.{else-not-is_said, then-not-is_said+in_ok-push_copy}
use Rattle.nodejs_semver.proofs.range.RangeOf.union.Goals as goal

pub loop-interval-preserved : goal.loop-interval-preserved
loop-interval-preserved g c = elim c.if-not-is_said.branch [
  | then-not-is_said+in_ok-push_copy w ↦ rw w.intervals-is (
    w.in_ok-push_copy.ensures.room,
    c.loop-interval.invariant.1,
    stays_behind _ c.items-others.result.now _
        c.interval-item.result c.in_ok-intervals.intervals.items _ _ c.loop-interval-test.true c.interval-item.is (ap not (sym c.is_said.ensures ∙ w.if-not-is_said.true))
        c.loop-interval.invariant.2 w.in_ok-push_copy.ensures.whole,
  )
  | else-not-is_said w ↦ rw w.intervals-is (
    c.loop-interval.invariant.0,
    c.loop-interval.invariant.1,
    goes_behind _ c.items-others.result.now _ c.interval-item.result
        c.in_ok-intervals.intervals.items _ c.loop-interval-test.true c.interval-item.is (ap not (sym c.is_said.ensures ∙ w.if-not-is_said.false)) c.loop-interval.invariant.2,
  )
]

pub of_some-requires : goal.of_some-requires
of_some-requires g c =
    let whole = rw (take_all _ c.items-others.result.now c.loop-interval-test.false) at c.loop-interval.invariant.2 in
    let made = union-made _ _ _ _ _ _ _ c.items-these.ensures.value c.items-others.ensures.value c.in_ok-intervals.ensures.whole whole in
    (omega arith, (omega arith, rw made (union-valid _ _ _ c.items-these.ensures.valid c.items-others.ensures.valid)))

pub returns-clause-list : goal.returns-clause-list
returns-clause-list g c =
    let whole = rw (take_all _ c.items-others.result.now c.loop-interval-test.false) at c.loop-interval.invariant.2 in
    c.of_some.ensures
    ∙ union-made _ _ _ _ _ _ _ c.items-these.ensures.value c.items-others.ensures.value c.in_ok-intervals.ensures.whole whole

pub returns-clause-accepted : goal.returns-clause-accepted
returns-clause-accepted g c = λ v include.
    let whole = rw (take_all _ c.items-others.result.now c.loop-interval-test.false) at c.loop-interval.invariant.2 in
    ap (λ r. accepts r v include) (c.of_some.ensures
    ∙ union-made _ _ _ _ _ _ _ c.items-these.ensures.value c.items-others.ensures.value c.in_ok-intervals.ensures.whole whole)
    ∙ union-accepts c.args.self.now c.args.other.now v include

pub returns-in_err-intervals-clause-memory : goal.returns-in_err-intervals-clause-memory
returns-in_err-intervals-clause-memory g c =
    on_err c.from_residual.result (taking-values g.V.Point.takes g.V.Versioned.value g.met.V.VersionPoint.copied _ _
    (union-made _ _ _ _ _ _ _ c.items-these.ensures.value c.items-others.ensures.value refl refl)
    (more-taking g.V.Point.takes _ _ c.in_err-intervals.ensures.memory))

pub returns-in_err-push_copy-clause-memory : goal.returns-in_err-push_copy-clause-memory
returns-in_err-push_copy-clause-memory g c =
    on_err _ (taking-values g.V.Point.takes g.V.Versioned.value g.met.V.VersionPoint.copied _ _
    (union-made _ _ _ _ _ _ _ c.items-these.ensures.value c.items-others.ensures.value c.in_ok-intervals.ensures.whole refl)
    (taken_at _ _ _ _ _ _ _ c.loop-interval-test.true c.interval-item.is
    (ap not (sym c.is_said.ensures ∙ c.if-not-is_said.true)) c.loop-interval.invariant.2 c.in_err-push_copy.ensures.memory))
