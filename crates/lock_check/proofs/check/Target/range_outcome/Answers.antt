use Rattle.std.proofs.Common.{subst}
use Rattle.lock_check.specs.Verdicts.{IsJudgement}
use Rattle.lock_check.proofs.check.Target.range_outcome.Goals as goal

pub returns : goal.returns
returns c = (
  c.in_ok-judgement.judgement,
  subst (λ t. IsJudgement c.args.wanted.now t c.in_ok-judgement.judgement) c.version.ensures
      c.in_ok-judgement.ensures,
  c.told.ensures,
)
