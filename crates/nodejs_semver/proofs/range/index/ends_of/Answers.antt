use Rattle.nodejs_semver.proofs.Common.{arith, bound_of, rules, sym, true, false, ◌∙◌}
use Rattle.nodejs_semver.proofs.Questions.Index.{ends_more, first_end, next_end}
use Rattle.nodejs_semver.specs.Internal.Index.{IsEnd}
use Rattle.nodejs_semver.proofs.range.index.ends_of.Goals.{in-Some+then-ends_below, in-Some+else-ends_below, in_default}
use Rattle.nodejs_semver.proofs.range.index.ends_of.Goals as goal

pub loop-entry-preserved : goal.loop-entry-preserved
loop-entry-preserved g c =
    let value = g.V.Versioned.value in
    let made = c.in_ok-push.ensures.items in
    let end : IsEnd c.args.entries.now c.loop-entry.entry-index (bound_of value c.match-checked_sub.end.now) = elim c.match-checked_sub.branch [
      | in-Some+then-ends_below w ↦
          let h = c.loop-entry.invariant.1 w.in-Some.last w.index.result.now (omega (arith, w.in-Some.ensures, c.len.ensures)) in
          rw w.end-is (next_end c.args.entries.now w.in-Some.last c.loop-entry.entry-index w.index-entries-last.result c.entry-item.result _ true
          c.requires (omega (arith, w.in-Some.ensures, c.len.ensures, c.loop-entry.invariant.0)) c.loop-entry-test.true w.index-entries-last.is
          c.entry-item.is (rw (sym w.index.ensures) at h) (rw (sym w.before-in-Some.view_is) (sym w.ends_below.ensures ∙ w.if-ends_below.true)))
      | in-Some+else-ends_below w ↦
          let h = c.loop-entry.invariant.1 w.in-Some.last w.index.result.now (omega (arith, w.in-Some.ensures, c.len.ensures)) in
          rw (w.end-is, c.upper-end.ensures) (rw (sym c.entry.view_is) at
          (next_end c.args.entries.now w.in-Some.last c.loop-entry.entry-index w.index-entries-last.result c.entry-item.result _ false
          c.requires (omega (arith, w.in-Some.ensures, c.len.ensures, c.loop-entry.invariant.0)) c.loop-entry-test.true w.index-entries-last.is
          c.entry-item.is (rw (sym w.index.ensures) at h) (rw (sym w.before-in-Some.view_is) (sym w.ends_below.ensures ∙ w.if-ends_below.false))))
      | in_default w ↦ rw (w.end-is, c.upper-end.ensures) (rw (sym c.entry.view_is) at
          (first_end c.args.entries.now c.loop-entry.entry-index c.entry-item.result
          (omega (arith, w.in_default.ensures, c.len.ensures, c.loop-entry.invariant.0)) c.loop-entry-test.true c.entry-item.is))
    ] in (
      search rules,
      ends_more value c.args.entries.now c.loop-entry.ends.items c.push.new.self.items c.match-checked_sub.end c.loop-entry.entry-index
          c.loop-entry.invariant.0 made c.loop-entry.invariant.1 end,
    )
