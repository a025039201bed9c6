use Rattle.semver_core.proofs.Text.Ends.{nothing_listed}
use Rattle.semver_pieces.proofs.fronts.build_front.Goals as goal

pub returns-in_default-clause-listed : goal.returns-in_default-clause-listed
returns-in_default-clause-listed c = nothing_listed
