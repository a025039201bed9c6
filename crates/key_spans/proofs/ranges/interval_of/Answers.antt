use Rattle.std.proofs.Common.{refl, sym, true≢false, ◌∙◌}
use Rattle.std.specs.Prelude.{None, Some}
use Rattle.semver_core.specs.declared.cuts.bound.Bound.TheVariants.{Unbounded}
use Rattle.key_spans.specs.Ranges.{IsIntervalOf, interval_of}
use Rattle.key_spans.proofs.FromSpans.{interval_none, interval_some, no_stop}
use Rattle.key_spans.proofs.ranges.interval_of.Goals as goal

last_of : (c : goal.After-new) → IsIntervalOf c.args.span.now (record { lower = c.bound_at-lower.result; upper = Unbounded })
last_of c = record {
  first = c.in-Some.first;
  last = None;
  starts = record {
    is_version = c.bound_at-lower.ensures.valid;
    is_key = (rw c.in-Some.is at c.in_ok-first.ensures.some) ∙ c.deref.ensures.value;
    no_build = rw c.in-Some.is at c.in_ok-first.ensures.no_build;
  };
  ends = sym c.deref-2.ensures.value ∙ c.is_end.ensures.0 c.if-is_end.true;
  value = λ j. record { lower = c.bound_at-lower.ensures.value j; upper = Unbounded };
}

pub returns-then-is_end-clause-some : goal.returns-then-is_end-clause-some
returns-then-is_end-clause-some c = interval_some c.args.span.now _ c.new.result c.new.ensures (last_of c)

pub returns-then-is_end-clause-none : goal.returns-then-is_end-clause-none
returns-then-is_end-clause-none c = interval_none c.args.span.now _ c.new.result c.new.ensures (last_of c)

one_of : (c : goal.After-between) → IsIntervalOf c.args.span.now (interval_of c.args.span.now.releases_only c.in-Some.first (Some c.in-Some-2.last))
one_of c = record {
  first = c.in-Some.first;
  last = Some c.in-Some-2.last;
  starts = record {
    is_version = c.between.ensures.first;
    is_key = (rw c.in-Some.is at c.in_ok-first.ensures.some) ∙ c.deref.ensures.value;
    no_build = rw c.in-Some.is at c.in_ok-first.ensures.no_build;
  };
  ends = record {
    is_version = c.between.ensures.last;
    is_key = (rw c.in-Some-2.is at c.in_ok-last.ensures.some) ∙ c.deref-3.ensures.value;
    no_build = rw c.in-Some-2.is at c.in_ok-last.ensures.no_build;
  };
  value = refl;
}

pub returns-in-Some-2-clause-some : goal.returns-in-Some-2-clause-some
returns-in-Some-2-clause-some c = interval_some c.args.span.now _ c.between.result c.between.ensures.value (one_of c)

pub returns-in-Some-2-clause-none : goal.returns-in-Some-2-clause-none
returns-in-Some-2-clause-none c = interval_none c.args.span.now _ c.between.result c.between.ensures.value (one_of c)

pub returns-in-None-clause-none : goal.returns-in-None-clause-none
returns-in-None-clause-none c = no_stop c.args.span.now
    (λ e. true≢false (sym (c.is_end.ensures.1 (c.deref-2.ensures.value ∙ e)) ∙ c.if-is_end.false))
    (λ v k e. (rw c.in-None.is at c.in_ok-last.ensures.none) v k (e ∙ sym c.deref-3.ensures.value))
