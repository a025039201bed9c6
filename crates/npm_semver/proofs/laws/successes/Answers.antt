use Rattle.npm_semver.proofs.LawLemmas.{success_none, success_some}
use Rattle.npm_semver.proofs.laws.successes.Goals as goal

pub returns : goal.returns
returns c = record { some = success_some; none = success_none }
