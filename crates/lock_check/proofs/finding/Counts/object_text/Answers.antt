use Rattle.std.proofs.Common.{◌∙◌, ap}
use Rattle.std.proofs.lemmas.Result.{IfOk-weaker}
use Rattle.serde_json.specs.Written.{compact_text, has_float}
use Rattle.lock_check.proofs.Objects.{no_float-counts}
use Rattle.lock_check.proofs.finding.Counts.object_text.Goals as goal

pub returns : goal.returns
returns c =
    let is = c.in_ok-object.ensures in
    IfOk-weaker c.to_string.result _ _ (λ s h. h (ap has_float is ∙ no_float-counts c.args.self.now) ∙ ap compact_text is)
    c.to_string.ensures.text
