use Rattle.std.proofs.Common.{rules}
use Rattle.nodejs_semver_c.proofs.Putting.{adds_same, adds_then}
use Rattle.nodejs_semver_c.proofs.pieces.put_interval.Goals.{in_default-via-in-Before-After+else-are_equal}
use Rattle.nodejs_semver_c.proofs.pieces.put_interval.Goals.{in_default-via-in-Before+in_default}
use Rattle.nodejs_semver_c.proofs.pieces.put_interval.Goals.{in_default-via-in_default+in_default}
use Rattle.nodejs_semver_c.proofs.pieces.put_interval.Goals as goal

pub returns-in_default : goal.returns-in_default
returns-in_default c =
    adds_same (elim c.in_default.branch [
      | in_default-via-in-Before-After+else-are_equal w ↦ search rules
      | in_default-via-in-Before+in_default w ↦ search rules
      | in_default-via-in_default+in_default w ↦ search rules
    ])
    (adds_then c.put_lower-in_default.ensures (adds_then c.put-in_default.ensures c.put_upper-in_default.ensures))
