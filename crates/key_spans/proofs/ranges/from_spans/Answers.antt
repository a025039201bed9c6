use Rattle.std.proofs.Common.{subst, take_all}
use Rattle.std.specs.List.{AllZip}
use Rattle.key_spans.specs.Ranges.{IsIntervalOf}
use Rattle.key_spans.proofs.FromSpans.{empty_made, exact_made, no_gap, none_made, one_further, zip_made}
use Rattle.key_spans.proofs.ranges.from_spans.Goals as goal

pub returns-in-None-clause-none : goal.returns-in-None-clause-none
returns-in-None-clause-none c = λ include h r range same. no_gap c.args.spans.now c.loop-span.span-index c.span-item.result c.loop-span-test.true
    c.span-item.is (rw c.in-None.is at c.in_ok-interval.ensures.none) include h

pub loop-span-preserved : goal.loop-span-preserved
loop-span-preserved c = one_further c.args.spans.now c.loop-span.span-index c.span-item.result c.loop-span.intervals.items c.push.new.self.items
    c.in-Some.interval c.loop-span-test.true c.span-item.is c.loop-span.invariant (rw c.in-Some.is at c.in_ok-interval.ensures.some)
    c.in_ok-push-in-Some.ensures.items

all_zip : (c : goal.After-ok) → AllZip IsIntervalOf c.args.spans.now c.loop-span.intervals.items
all_zip c = subst (λ l. AllZip IsIntervalOf l c.loop-span.intervals.items) (take_all c.loop-span.span-index c.args.spans.now c.loop-span-test.false)
    c.loop-span.invariant

pub returns-clause-intervals : goal.returns-clause-intervals
returns-clause-intervals c = zip_made c.args.spans.now c.loop-span.intervals.items c.from_intervals.result c.ok.result c.ok.ensures.value
    (all_zip c) c.from_intervals.ensures.list

pub returns-clause-exact : goal.returns-clause-exact
returns-clause-exact c = exact_made c.args.spans.now c.ok.result (returns-clause-intervals c)

pub returns-clause-none : goal.returns-clause-none
returns-clause-none c = none_made c.args.spans.now c.loop-span.intervals.items c.from_intervals.result c.ok.result c.ok.ensures.value
    (all_zip c) c.from_intervals.ensures.exact

pub returns-clause-empty : goal.returns-clause-empty
returns-clause-empty c = empty_made c.args.spans.now c.loop-span.intervals.items c.from_intervals.result c.ok.result c.ok.ensures.value
    (all_zip c) c.from_intervals.ensures.exact
