use Rattle.std.proofs.Common.{◌≡◌, ◌<◌, ◌≤◌, ◌++◌, ◌∙◌, ap, arith, get_or, string_bytes, subst, sym}
use Rattle.lock_check.specs.declared.finding.Skip.TheVariants.{Unsure}
use Rattle.lock_check.specs.Summary.{named_skips, reason_text, separator}
use Rattle.lock_check.proofs.Counted.{back, is_none, opened, told_all, told_more, told_same}
use Rattle.lock_check.proofs.finding.Skips.write.Goals.{then-count-gt0+in_ok-write_reason, else-count-gt0}
use Rattle.lock_check.proofs.finding.Skips.write.Goals as goal

pub loop-skip-preserved : goal.loop-skip-preserved
loop-skip-preserved c = elim c.if-count-gt0.branch [
  | then-count-gt0+in_ok-write_reason w ↦
      let named = named_skips c.args.self.now in
      let i = c.loop-skip.skip-index in
      let e : get_or c.named-skip-items.result i (Unsure, 0) ≡ get_or named i (Unsure, 0) = ap (λ l. get_or l i (Unsure, 0)) c.named-skip-items.ensures in
      let new = w.in_ok-write_reason.ensures in
      let h = w.if-count-gt0.true in
      let step = told_more named i (Unsure, 0) (omega arith) (subst (λ r. 0 < r.1) e h) (string_bytes c.args.output.now)
      (string_bytes c.loop-skip.output) (string_bytes w.write_reason.new.output) c.loop-skip.is_first c.loop-skip.invariant.0 c.loop-skip.invariant.1
      (new ∙ ap (λ r. (string_bytes c.loop-skip.output ++ separator c.loop-skip.is_first) ++ reason_text r) e) in
      (ap string_bytes w.output-is ∙ step.0, w.is_first-is ∙ step.1)
  | else-count-gt0 w ↦
      let named = named_skips c.args.self.now in
      let i = c.loop-skip.skip-index in
      let e : get_or c.named-skip-items.result i (Unsure, 0) ≡ get_or named i (Unsure, 0) = ap (λ l. get_or l i (Unsure, 0)) c.named-skip-items.ensures in
      let same = told_same named i (Unsure, 0) (omega arith) (subst (λ r. r.1 ≤ 0) e w.if-count-gt0.false) in (
        ap string_bytes w.output-is ∙ c.loop-skip.invariant.0 ∙ ap (λ t. string_bytes c.args.output.now ++ opened t) (sym same),
        w.is_first-is ∙ c.loop-skip.invariant.1 ∙ ap is_none (sym same),
      )
]

pub returns-in_ok-push_str : goal.returns-in_ok-push_str
returns-in_ok-push_str c =
    told_all (named_skips c.args.self.now) c.loop-skip.skip-index c.loop-skip-test.false
    (string_bytes c.args.output.now) (string_bytes c.loop-skip.output) (string_bytes c.push_str.new.self)
    c.loop-skip.is_first c.loop-skip.invariant.0 c.loop-skip.invariant.1
    (c.in_ok-push_str.ensures.bytes ∙ ap (λ b. string_bytes c.loop-skip.output ++ back b) (sym c.if-not-is_first.true))
