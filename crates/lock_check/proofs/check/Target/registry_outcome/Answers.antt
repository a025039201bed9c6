use Rattle.std.proofs.Common.{◌≡◌, ◌∙◌, codes, inr, sym}
use Rattle.std.proofs.lemmas.Result.{IfOk-weaker}
use Rattle.semver_core.proofs.Text.Trims.{middle_is_trim}
use Rattle.lock_check.proofs.check.Target.registry_outcome.Goals as goal

pub returns : goal.returns
returns c =
    let text = c.args.wanted.now in
    IfOk-weaker c.range_outcome.result _ _ (λ found h. inr (
      λ star.
          let same : c.trim.result.now ≡ codes "*" =
          middle_is_trim text c.trim.result.now c.trim.ensures.middle
          ∙ sym (middle_is_trim text (codes "*") star) in
          let off = rw same at c.if-eq.ensures in absurd (cc),
      h,
    )) c.range_outcome.ensures
