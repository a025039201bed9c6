use Rattle.nodejs_semver_c.proofs.Putting.{adds_then}
use Rattle.nodejs_semver_c.proofs.pieces.put_signed.Goals as goal

pub returns : goal.returns
returns c = adds_then c.put.ensures c.put_version.ensures
