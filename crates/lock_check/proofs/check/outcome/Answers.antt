use Rattle.std.proofs.Common.{subst, sym, true≢false, ◌∙◌}
use Rattle.std.proofs.lemmas.Result.{IfOk-weaker}
use Rattle.lock_check.specs.Judged.{IsOutcome}
use Rattle.lock_check.specs.Judged.IsOutcome.{absent, conflict, locked, missing}
use Rattle.lock_check.specs.declared.finding.Outcome.TheVariants as outcome
use Rattle.lock_check.proofs.check.outcome.Goals as goal

pub returns-then-is_conflict : goal.returns-then-is_conflict
returns-then-is_conflict c = conflict c.args.locked (c.is_conflict.ensures.0 c.if-is_conflict.true)

pub returns-in-None : goal.returns-in-None
returns-in-None c =
    subst (λ l. IsOutcome c.args.lock c.args.dependency c.args.before l outcome.Absent) (sym c.in-None.is)
    (absent (λ has. true≢false (sym (c.is_conflict.ensures.1 has) ∙ c.if-is_conflict.false)) c.if-is_optional.ensures)

pub returns-in-None-2 : goal.returns-in-None-2
returns-in-None-2 c =
    subst (λ l. IsOutcome c.args.lock c.args.dependency c.args.before l outcome.Missing) (sym c.in-None.is)
    (missing (λ has. true≢false (sym (c.is_conflict.ensures.1 has) ∙ c.if-is_conflict.false)) c.if-is_optional.ensures)

pub returns-in-Some : goal.returns-in-Some
returns-in-Some c = IfOk-weaker c.locked_outcome.result _ _ (λ found h.
    subst (λ l. IsOutcome c.args.lock c.args.dependency c.args.before l found) (sym c.in-Some.is)
    (locked c.in-Some.locked found (λ has. true≢false (sym (c.is_conflict.ensures.1 has) ∙ c.if-is_conflict.false)) h))
    c.locked_outcome.ensures
