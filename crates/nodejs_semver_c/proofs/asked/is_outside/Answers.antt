use Rattle.std.proofs.Common.{◌≡◌, ◌∙◌, arith, false, get_or, map, sym, take_all, true}
use Rattle.std.proofs.lemmas.List.Folds.{list_all_at}
use Rattle.std.specs.List.{list_all}
use Rattle.nodejs_semver_c.proofs.Asking.{all_kept, all_more}
use Rattle.nodejs_semver_c.proofs.Ranging.{at_default, no_interval}
use Rattle.nodejs_semver_c.specs.Internal.Keeps.{lies_opposite}
use Rattle.nodejs_semver_c.specs.Kept.{kept_value}
use Rattle.nodejs_semver_c.specs.KeptRanges.{kept_span}
use Rattle.nodejs_semver_c.specs.Numbers.{side_of}
use Rattle.nodejs_semver_c.specs.declared.intervals.Interval.{Interval}
use Rattle.nodejs_semver_c.proofs.asked.is_outside.Goals as goal

pub loop-interval-preserved : goal.loop-interval-preserved
loop-interval-preserved c =
    let list = c.args.range.now in
    let at = c.loop-interval.interval-index in
    let lt = c.loop-interval-test.true in
    let i = get_or list at no_interval in
    all_more _ list at i lt (at_default list at no_interval i lt) (sym c.lies_opposite.ensures ∙ grind (arith, c.if-not-lies_opposite.false)) c.loop-interval.invariant

pub returns-then-not-lies_opposite : goal.returns-then-not-lies_opposite
returns-then-not-lies_opposite c =
    let list = c.args.range.now in
    let at = c.loop-interval.interval-index in
    let lt = c.loop-interval-test.true in
    let test = lies_opposite (side_of c.args.above) (kept_value c.args.version.now) in
    let fails : list_all test (map kept_span list) ≡ false = sym (all_kept test list)
    ∙ list_all_at (λ (i : Interval). test (kept_span i)) list at no_interval lt (sym c.lies_opposite.ensures ∙ grind (arith, c.if-not-lies_opposite.true)) in
    grind (arith, fails)

pub returns : goal.returns
returns c =
    let list = c.args.range.now in
    let test = lies_opposite (side_of c.args.above) (kept_value c.args.version.now) in
    let passes : list_all test (map kept_span list) ≡ true =
    sym (all_kept test list) ∙ rw (take_all _ list c.loop-interval-test.false) at c.loop-interval.invariant in
    grind (arith, passes, c.is_accepted.ensures, c.if-is_accepted.false)
