use Rattle.nodejs_semver.proofs.Common.{arith, comparison_front}
use Rattle.nodejs_semver.proofs.Bounds.TableReadings.{compared}
use Rattle.nodejs_semver.proofs.readers.fast.comparison.Goals as goal

pub returns : goal.returns
unfolding comparison_front
returns c = grind (arith, compared)
