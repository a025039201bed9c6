use Rattle.std.proofs.Common.{◌∙◌}
use Rattle.npm_semver.proofs.Fields.{number_read}
use Rattle.npm_semver.proofs.question.field_number.Goals as goal

pub returns : goal.returns
returns c = c.unwrap_or.ensures ∙ number_read c.args.digits.now c.parse.result c.parse.ensures.value.0 c.requires
