use Rattle.std.proofs.Common.{arith, inl, inr}
use Rattle.nodejs_semver_c.proofs.Spanning.{spans_put, spans_short}
use Rattle.nodejs_semver_c.proofs.kept_spans.put_spans.Goals.{then-told-spans-via-else-told-spans+then-out-needed}
use Rattle.nodejs_semver_c.proofs.kept_spans.put_spans.Goals.{then-told-spans-via-then-told-spans}
use Rattle.nodejs_semver_c.proofs.kept_spans.put_spans.Goals as goal

pub returns-then-told-spans : goal.returns-then-told-spans
returns-then-told-spans c = spans_short _ _ _ _ _ _
    c.counted_ends-needed.ensures (omega (arith, c.if-needed-gt-MOST_BYTES.false))
    (elim c.then-told-spans.branch [
      | then-told-spans-via-then-told-spans w ↦ inl w.if-told-spans.true
      | then-told-spans-via-else-told-spans+then-out-needed w ↦ inr w.if-out-needed.true
    ])

pub returns : goal.returns
returns c = spans_put _ _ _ _ _ _
    c.counted_ends-needed.ensures (omega (arith, c.if-needed-gt-MOST_BYTES.false)) _ _ _
    (omega (arith, c.if-out-needed.false)) c.tell_parts.ensures c.put_ends.ensures
