use Rattle.semver_core.proofs.Encoding.Checking.{number_there}
use Rattle.semver_core.proofs.keys.read.read_id.Goals as goal

pub unwrap-number-requires : goal.unwrap-number-requires
unwrap-number-requires c = let front = rw c.unwrap.ensures at c.split_first.ensures.cases in search number_there
