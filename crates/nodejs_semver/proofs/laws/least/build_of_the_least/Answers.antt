use Rattle.nodejs_semver.proofs.Questions.Least.{build_of_bound, build_of_none}
use Rattle.nodejs_semver.proofs.laws.least.build_of_the_least.Goals as goal

pub returns : goal.returns
returns c = record { bound = build_of_bound; none = build_of_none }
