use Rattle.std.proofs.Common.{◌∙◌, ap}
use Rattle.std.proofs.lemmas.Result.{IfOk-weaker}
use Rattle.serde_json.specs.Written.{compact_text, has_float}
use Rattle.lock_check.proofs.Objects.{no_float-outlook}
use Rattle.lock_check.proofs.outlook_row.outlook_object_text.Goals as goal

pub returns : goal.returns
returns c =
    let is = c.in_ok-object.ensures in
    IfOk-weaker c.to_string.result _ _ (λ s h. h (ap has_float is ∙ no_float-outlook c.args.row.now) ∙ ap compact_text is)
    c.to_string.ensures.text
