use Rattle.std.proofs.Common.{◌∙◌, inl, inr, sym}
use Rattle.std.proofs.lemmas.Result.{IfOk-weaker}
use Rattle.lock_check.specs.Outcomes.IsJudged.{first, instead}
use Rattle.lock_check.proofs.check.Target.outcome_of_either.Goals.{in_default-via-in-Some+else-not-is_satisfied}
use Rattle.lock_check.proofs.check.Target.outcome_of_either.Goals.{in_default-via-in_default}
use Rattle.lock_check.proofs.check.Target.outcome_of_either.Goals as goal

pub returns-in-Some : goal.returns-in-Some
returns-in-Some c = IfOk-weaker c.accepted_outcome.result _ _ (λ found h.
    instead c.in_ok-outcome.outcome found c.in-Some.accepted.now c.in_ok-outcome.ensures
    (sym c.is_satisfied.ensures ∙ c.if-not-is_satisfied.true) (sym c.in-Some.ensures) h)
    c.accepted_outcome.ensures

pub returns-in_default : goal.returns-in_default
returns-in_default c = elim c.in_default.branch [
  | in_default-via-in-Some+else-not-is_satisfied w ↦
      first c.in_ok-outcome.outcome c.in_ok-outcome.ensures
      (inl (sym w.is_satisfied.ensures ∙ w.if-not-is_satisfied.false))
  | in_default-via-in_default w ↦
      first c.in_ok-outcome.outcome c.in_ok-outcome.ensures (inr (sym w.in_default.ensures))
]
