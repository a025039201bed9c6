use Rattle.std.proofs.Common.{◌++◌, ◌∷◌, ◌∙◌, [], ap₂, arith, get_or, sym, take, take_all}
use Rattle.std.proofs.lemmas.List.{length-map, length-take-le}
use Rattle.std.proofs.lemmas.Result.{err_from_is_err_and}
use Rattle.nodejs_semver.proofs.Values.{map-further}
use Rattle.nodejs_semver_c.proofs.Ranging.{at_default, keeps_more, no_interval}
use Rattle.nodejs_semver_c.specs.KeptRanges.{kept_span}
use Rattle.nodejs_semver_c.proofs.intervals.fill.Goals as goal

pub push_reserved-requires : goal.push_reserved-requires
push_reserved-requires c =
    let at = c.loop-interval.interval-index in
    let put = length-map (take at c.args.intervals.now) kept_span ∙ length-take-le at c.args.intervals.now (omega (arith, c.loop-interval-test.true)) in
    (omega arith, rw (c.loop-interval.invariant.0, c.loop-interval.invariant.1, put) (omega (arith, c.requires.room, c.loop-interval-test.true)))

pub loop-interval-preserved : goal.loop-interval-preserved
loop-interval-preserved c =
    let (items, capacity, all) = c.loop-interval.invariant in
    let (span, one) = c.in_ok-kept_interval.ensures.ok in
    let list = c.args.intervals.now in
    let at = c.loop-interval.interval-index in
    let lt = c.loop-interval-test.true in
    let i = get_or list at no_interval in
    let same = at_default list at no_interval i lt in (
      c.push_reserved.ensures.items ∙ ap₂ (λ l x. l ++ x ∷ []) items span ∙ sym (map-further kept_span list at i lt same),
      c.push_reserved.ensures.capacity ∙ capacity,
      keeps_more list at i lt same one all,
    )

pub returns-clause-ok : goal.returns-clause-ok
returns-clause-ok c =
    let (items, capacity, all) = rw (take_all _ c.args.intervals.now c.loop-interval-test.false) at c.loop-interval.invariant in (items, all)

pub returns-in_err-kept_interval-clause-refused : goal.returns-in_err-kept_interval-clause-refused
returns-in_err-kept_interval-clause-refused c =
    let p = err_from_is_err_and c.from_residual.result c.from_residual.ensures.1 in
    let list = c.args.intervals.now in
    let at = c.loop-interval.interval-index in
    let lt = c.loop-interval-test.true in
    let i = get_or list at no_interval in
    rw (p.1, p.2) (at, i, lt, sym (at_default list at no_interval i lt), c.in_err-kept_interval.ensures.refused)
