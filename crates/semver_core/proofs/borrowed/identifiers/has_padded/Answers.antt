use Rattle.semver_core.proofs.Common.{arith, sym, take_rest, ◌∙◌}
use Rattle.semver_core.proofs.Printing.Padded.{behind_dot, behind_here, behind_other, padded_behind}
use Rattle.semver_core.proofs.borrowed.identifiers.has_padded.Goals as goal
use Rattle.semver_core.proofs.borrowed.identifiers.has_padded.Goals.{else-text-at-eq46-via-else-text-at-eq46, else-text-at-eq46-via-then-text-at-eq46+else-begins_padded_run-2}

pub returns-then-begins_padded_run-2 : goal.returns-then-begins_padded_run-2
returns-then-begins_padded_run-2 c =
    let here = behind_here c.args.text.now c.loop-at.at (omega arith) c.if-text-at-eq46.true (rw take_rest at (sym c.if-begins_padded_run-2.ensures)) in
    sym (padded_behind c.args.text.now (sym c.if-begins_padded_run.ensures) ∙ c.loop-at.invariant ∙ here)

pub loop-at-preserved : goal.loop-at-preserved
loop-at-preserved c = elim c.else-text-at-eq46.branch [
  | else-text-at-eq46-via-then-text-at-eq46+else-begins_padded_run-2 w ↦
      c.loop-at.invariant ∙ behind_dot c.args.text.now c.loop-at.at (omega arith) (rw take_rest at (sym w.if-begins_padded_run-2.ensures))
  | else-text-at-eq46-via-else-text-at-eq46 w ↦
      c.loop-at.invariant ∙ behind_other c.args.text.now c.loop-at.at (omega arith) w.if-text-at-eq46.false
]
