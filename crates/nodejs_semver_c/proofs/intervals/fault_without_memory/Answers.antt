use Rattle.std.proofs.Common.{get_or, inl, inr, refl, sym, take_all}
use Rattle.nodejs_semver_c.proofs.Ranging.{at_default, keeps_more, no_interval}
use Rattle.nodejs_semver_c.proofs.intervals.fault_without_memory.Goals as goal

pub returns-in-Err : goal.returns-in-Err
returns-in-Err c =
    let list = c.args.intervals.now in
    let at = c.loop-interval.interval-index in
    let lt = c.loop-interval-test.true in
    let i = get_or list at no_interval in
    inl (at, i, lt, sym (at_default list at no_interval i lt), c.in-Err.ensures.refused)

pub loop-interval-preserved : goal.loop-interval-preserved
loop-interval-preserved c =
    let list = c.args.intervals.now in
    let at = c.loop-interval.interval-index in
    let lt = c.loop-interval-test.true in
    let i = get_or list at no_interval in
    keeps_more list at i lt (at_default list at no_interval i lt) c.in_default.ensures.ok c.loop-interval.invariant

pub returns : goal.returns
returns c = inr (refl, rw (take_all _ c.args.intervals.now c.loop-interval-test.false) at c.loop-interval.invariant)
