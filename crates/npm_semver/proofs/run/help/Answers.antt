use Rattle.npm_semver.specs.Responses.Responds.{help}
use Rattle.npm_semver.proofs.run.help.Goals as goal

pub returns-clause-response : goal.returns-clause-response
returns-clause-response c = help _
