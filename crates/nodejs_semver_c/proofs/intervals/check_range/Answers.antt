use Rattle.std.proofs.Common.{arith, get_or, sym, take_all}
use Rattle.std.proofs.lemmas.Result.{err_from_is_err_and}
use Rattle.nodejs_semver.proofs.Common.{nat_tests}
use Rattle.nodejs_semver_c.proofs.Ranging.{at_default, keeps_more, kept_all, no_interval, refused_one}
use Rattle.nodejs_semver_c.proofs.intervals.check_range.Goals as goal

pub loop-interval-preserved : goal.loop-interval-preserved
loop-interval-preserved c =
    let list = c.args.range.now in
    let at = c.loop-interval.interval-index in
    let lt = c.loop-interval-test.true in
    let i = get_or list at no_interval in
    keeps_more list at i lt (at_default list at no_interval i lt) c.in_ok-check_interval.ensures.ok c.loop-interval.invariant

pub returns-in_err-check_interval-clause-refused : goal.returns-in_err-check_interval-clause-refused
returns-in_err-check_interval-clause-refused c =
    let p = err_from_is_err_and c.from_residual.result c.from_residual.ensures.1 in
    let list = c.args.range.now in
    let at = c.loop-interval.interval-index in
    let lt = c.loop-interval-test.true in
    let i = get_or list at no_interval in
    rw (p.1, p.2) (refused_one list _ (at, i, lt, sym (at_default list at no_interval i lt), c.in_err-check_interval.ensures.refused))

pub returns-clause-ok : goal.returns-clause-ok
returns-clause-ok c =
    let list = c.args.range.now in
    kept_all list (rw (take_all _ list c.loop-interval-test.false) at c.loop-interval.invariant)
    (grind (arith, nat_tests, c.if-is_empty.false, c.is_empty.ensures))
