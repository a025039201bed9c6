use Rattle.std.proofs.Common.{◌&&◌, ◌||◌, ◌∙◌, get_or, sym, take_all}
use Rattle.nodejs_semver.proofs.Algebra.Accepting.{none_further, one_passes}
use Rattle.semver_core.specs.Cuts.{Span, holds}
use Rattle.semver_core.specs.Values.Gate.{lets_in}
use Rattle.semver_core.specs.Values.Order.{precedence}
use Rattle.semver_core.specs.Values.Versions.{VersionValue}
use Rattle.nodejs_semver_c.proofs.Asking.{any_kept}
use Rattle.nodejs_semver_c.proofs.Ranging.{at_default, no_interval}
use Rattle.nodejs_semver_c.specs.Kept.{kept_value}
use Rattle.nodejs_semver_c.specs.KeptRanges.{kept_span}
use Rattle.nodejs_semver_c.specs.declared.intervals.Interval.{Interval}
use Rattle.nodejs_semver_c.proofs.asked.is_accepted.Goals as goal

pub loop-interval-preserved : goal.loop-interval-preserved
loop-interval-preserved c =
    let list = c.args.range.now in
    let at = c.loop-interval.interval-index in
    let lt = c.loop-interval-test.true in
    let i = get_or list at no_interval in
    none_further _ list at i lt (at_default list at no_interval i lt) c.loop-interval.invariant
    (sym c.accepts_one.ensures ∙ c.if-accepts_one.false)

pub returns-then-accepts_one : goal.returns-then-accepts_one
returns-then-accepts_one c =
    let list = c.args.range.now in
    let at = c.loop-interval.interval-index in
    let lt = c.loop-interval-test.true in
    let i = get_or list at no_interval in
    let test = λ (s : Span VersionValue). holds precedence s (kept_value c.args.version.now)
    && (c.args.include_prerelease || lets_in s (kept_value c.args.version.now)) in
    sym (one_passes (λ (i : Interval). test (kept_span i)) list at i lt (at_default list at no_interval i lt)
    (sym c.accepts_one.ensures ∙ c.if-accepts_one.true)) ∙ any_kept test list

pub returns : goal.returns
returns c =
    let list = c.args.range.now in
    let test = λ (s : Span VersionValue). holds precedence s (kept_value c.args.version.now)
    && (c.args.include_prerelease || lets_in s (kept_value c.args.version.now)) in
    sym (rw (take_all _ list c.loop-interval-test.false) at c.loop-interval.invariant) ∙ any_kept test list
