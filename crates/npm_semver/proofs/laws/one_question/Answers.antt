use Rattle.npm_semver.proofs.OneQuestion.{asked_once}
use Rattle.npm_semver.proofs.laws.one_question.Goals as goal

pub returns : goal.returns
returns c = asked_once
