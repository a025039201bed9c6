use Rattle.nodejs_semver.proofs.Diagnosing.Without.{rejected_if_ignored, same_without}
use Rattle.nodejs_semver.proofs.laws.diagnosis.ignored_words_mean_nothing.Goals as goal

pub returns : goal.returns
returns c = record { same = same_without; rejected = rejected_if_ignored }
