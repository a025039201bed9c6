use Rattle.std.proofs.Common.{arith, inl, inr}
use Rattle.nodejs_semver_c.proofs.Ranging.{range_put, range_short}
use Rattle.nodejs_semver_c.proofs.intervals.tell_range.Goals.{then-told-intervals-via-else-told-intervals+then-out-needed}
use Rattle.nodejs_semver_c.proofs.intervals.tell_range.Goals.{then-told-intervals-via-then-told-intervals}
use Rattle.nodejs_semver_c.proofs.intervals.tell_range.Goals as goal

pub returns-then-told-intervals : goal.returns-then-told-intervals
returns-then-told-intervals c =
    range_short _ _ c.intervals-intervals.ensures.value c.intervals-intervals.ensures.valid _ _ _ _ _
    c.counted_texts-needed.ensures (omega (arith, c.if-needed-gt-MOST_BYTES.false))
    (elim c.then-told-intervals.branch [
      | then-told-intervals-via-then-told-intervals w ↦ inl w.if-told-intervals.true
      | then-told-intervals-via-else-told-intervals+then-out-needed w ↦ inr w.if-out-needed.true
    ])

pub returns : goal.returns
returns c = range_put _ _ c.intervals-intervals.ensures.value c.intervals-intervals.ensures.valid _ _ _ _ _
    c.counted_texts-needed.ensures (omega (arith, c.if-needed-gt-MOST_BYTES.false)) _ _ _
    (omega (arith, c.if-out-needed.false)) c.tell_intervals.ensures.told c.tell_intervals.ensures.texts.1
