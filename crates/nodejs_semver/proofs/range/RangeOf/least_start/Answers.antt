use Rattle.nodejs_semver.proofs.Common.{Any, BeginsOtherwise, Bor, IfNone, IfSome, IsLeastOf, IsLeastSoFar, List, Option, Some, Span}
use Rattle.nodejs_semver.proofs.Common.{VersionValue, accepts, arith, false, least_build, length, subst, take_all, value_of, ◌<◌, ◌≡◌}
use Rattle.nodejs_semver.proofs.Questions.Spans.{any_at, on_none, one_further}
use Rattle.nodejs_semver.proofs.range.RangeOf.least_start.Goals as goal

settled : {V : Type 0} (value : V → VersionValue) (ss : List (Span VersionValue)) (least : Option (Bor V)) → IsLeastSoFar ss (value_of value least)
    → 0 < length ss → IfSome least (λ v. IsLeastOf (λ w. accepts ss w false) (Some (value v.now)))
    × IfSome least (λ v. (value v.now).build ≡ least_build ss (value v.now)) × IfNone least (Any BeginsOtherwise ss)
settled value ss least is some = grind arith

pub loop-interval-preserved : goal.loop-interval-preserved
loop-interval-preserved g c = one_further g.V.Versioned.value c.items-intervals.result.now c.loop-interval.interval-index c.interval-item.result _ _ _
    c.loop-interval-test.true c.interval-item.is c.loop-interval.invariant c.in_ok-start.ensures.some c.lesser.ensures

pub returns-in_err-start-clause-none : goal.returns-in_err-start-clause-none
returns-in_err-start-clause-none g c =
    on_none _ (subst (Any BeginsOtherwise) c.items-intervals.ensures.value (any_at g.V.Versioned.value c.items-intervals.result.now
    c.loop-interval.interval-index c.interval-item.result c.loop-interval-test.true c.interval-item.is BeginsOtherwise
    c.in_err-start.ensures.none))

pub returns : goal.returns
returns g c =
    let (least, build, none) = settled g.V.Versioned.value c.args.self.now c.loop-interval.least
    (rw (take_all _ c.items-intervals.result.now c.loop-interval-test.false, c.items-intervals.ensures.value) at c.loop-interval.invariant)
    c.items-intervals.ensures.valid.some in record { least = least; build = build; none = none }
