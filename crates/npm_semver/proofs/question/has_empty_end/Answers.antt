use Rattle.std.proofs.Common.{◌∙◌}
use Rattle.npm_semver.proofs.Records.{some_end}
use Rattle.npm_semver.proofs.question.has_empty_end.Goals as goal

pub returns-in-Some : goal.returns-in-Some
returns-in-Some c = c.is_empty.ensures ∙ some_end c.args.parts.now c.in-Some.last.now c.in-Some.ensures.value
