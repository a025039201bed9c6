use Rattle.nodejs_semver.proofs.Common.{ap, has_written_styled_append, has_written_styled_of_eq, refl, rules, subst, sym, take_all, ◌∙◌}
use Rattle.std.specs.Fmt.{IsDefaultSpec}
use Rattle.nodejs_semver.proofs.Values.{range_step, bars_step, printed, printed-values}
use Rattle.nodejs_semver.proofs.range.print.RangeOfDisplay.fmt.Goals as goal

pub loop-interval-preserved : goal.loop-interval-preserved
loop-interval-preserved g c =
    let i = c.loop-interval.interval-index in (
      search rules,
      bars_step _ i c.interval-item.result c.loop-interval-test.true c.interval-item.is,
      λ p.
          let so_far = c.loop-interval.invariant.2 p in
          let bars = c.in_ok-write_str.ensures.styled so_far.flush refl in
          let now = has_written_styled_append _ _ _ _ _ _ bars (c.in_ok-write_interval.ensures bars.flush refl) in
          has_written_styled_of_eq _ _ _ _ _
          (range_step _ _ i _ _ c.loop-interval-test.true c.loop-interval.invariant.1 c.interval-item.is)
          (has_written_styled_append _ _ _ _ _ _ so_far now),
    )

pub returns-clause-styled : goal.returns-clause-styled
returns-clause-styled g c flush ok = rw c.items-intervals.ensures.value at (has_written_styled_of_eq _ _ _ _ _
    (ap (printed g.V.Versioned.value) (take_all _ c.items-intervals.result.now c.loop-interval-test.false)
    ∙ printed-values g.V.Versioned.value c.items-intervals.result.now) (c.loop-interval.invariant.2 flush))

pub returns-clause-writes : goal.returns-clause-writes
returns-clause-writes g c plain ok =
    let h = returns-clause-styled g c plain.flush ok in
    record { wrote = h.wrote; plain = record { bare = subst IsDefaultSpec (sym h.spec) plain.bare; flush = h.flush } }
