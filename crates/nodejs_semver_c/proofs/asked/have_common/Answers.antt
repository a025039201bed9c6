use Rattle.std.proofs.Common.{◌∙◌, get_or, map, sym, take_all}
use Rattle.std.specs.List.{list_any}
use Rattle.std.specs.Prelude.{is_some}
use Rattle.nodejs_semver.proofs.Algebra.Accepting.{none_further, one_passes}
use Rattle.semver_core.specs.Cuts.{meet}
use Rattle.semver_core.specs.Values.Order.{precedence}
use Rattle.nodejs_semver_c.proofs.Asking.{pairs_meet}
use Rattle.nodejs_semver_c.proofs.Ranging.{at_default, no_interval}
use Rattle.nodejs_semver_c.specs.KeptRanges.{kept_span}
use Rattle.nodejs_semver_c.proofs.asked.have_common.Goals as goal

pub loop-interval-preserved : goal.loop-interval-preserved
loop-interval-preserved c =
    let list = c.args.range.now in
    let at = c.loop-interval.interval-index in
    let lt = c.loop-interval-test.true in
    let i = get_or list at no_interval in
    none_further _ list at i lt (at_default list at no_interval i lt) c.loop-interval.invariant (sym c.meets_some.ensures ∙ c.if-meets_some.false)

pub returns-then-meets_some : goal.returns-then-meets_some
returns-then-meets_some c =
    let list = c.args.range.now in
    let at = c.loop-interval.interval-index in
    let lt = c.loop-interval-test.true in
    let i = get_or list at no_interval in
    sym (one_passes (λ i. list_any (λ t. is_some (meet precedence (kept_span i) t)) (map kept_span c.args.other.now)) list at i lt
    (at_default list at no_interval i lt) (sym c.meets_some.ensures ∙ c.if-meets_some.true)) ∙ pairs_meet list c.args.other.now

pub returns : goal.returns
returns c =
    let list = c.args.range.now in
    sym (rw (take_all _ list c.loop-interval-test.false) at c.loop-interval.invariant) ∙ pairs_meet list c.args.other.now
