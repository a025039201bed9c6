use Rattle.std.proofs.Common.{◌∙◌, get_or, sym, take_all}
use Rattle.std.specs.Prelude.{is_some}
use Rattle.nodejs_semver.proofs.Algebra.Accepting.{none_further, one_passes}
use Rattle.semver_core.specs.Cuts.{Span, meet}
use Rattle.semver_core.specs.Values.Order.{precedence}
use Rattle.semver_core.specs.Values.Versions.{VersionValue}
use Rattle.nodejs_semver_c.proofs.Asking.{any_kept}
use Rattle.nodejs_semver_c.proofs.Ranging.{at_default, no_interval}
use Rattle.nodejs_semver_c.specs.KeptRanges.{kept_span}
use Rattle.nodejs_semver_c.specs.declared.intervals.Interval.{Interval}
use Rattle.nodejs_semver_c.proofs.asked.meets_some.Goals as goal

pub loop-other-preserved : goal.loop-other-preserved
loop-other-preserved c =
    let list = c.args.others.now in
    let at = c.loop-other.other-index in
    let lt = c.loop-other-test.true in
    let i = get_or list at no_interval in
    none_further _ list at i lt (at_default list at no_interval i lt) c.loop-other.invariant (sym c.meets_one.ensures ∙ c.if-meets_one.false)

pub returns-then-meets_one : goal.returns-then-meets_one
returns-then-meets_one c =
    let list = c.args.others.now in
    let at = c.loop-other.other-index in
    let lt = c.loop-other-test.true in
    let i = get_or list at no_interval in
    let test = λ (t : Span VersionValue). is_some (meet precedence (kept_span c.args.interval.now) t) in
    sym (one_passes (λ (j : Interval). test (kept_span j)) list at i lt (at_default list at no_interval i lt)
    (sym c.meets_one.ensures ∙ c.if-meets_one.true)) ∙ any_kept test list

pub returns : goal.returns
returns c =
    let list = c.args.others.now in
    let test = λ (t : Span VersionValue). is_some (meet precedence (kept_span c.args.interval.now) t) in
    sym (rw (take_all _ list c.loop-other-test.false) at c.loop-other.invariant) ∙ any_kept test list
