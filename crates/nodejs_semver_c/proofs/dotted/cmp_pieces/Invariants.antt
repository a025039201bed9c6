use Rattle.std.proofs.Common.{◌≡◌, length}
use Rattle.std.specs.Cmp.Lexicographic.{slice_cmp}
use Rattle.semver_core.specs.Values.Order.{id_cmp}
use Rattle.nodejs_semver_c.specs.Internal.Dotted.{spelled}
use Rattle.nodejs_semver_c.proofs.dotted.cmp_pieces.Given as goal

abbrev pub invariant-pieces : goal.invariant-pieces
invariant-pieces l = slice_cmp id_cmp (spelled l.text) (spelled l.other) ≡ slice_cmp id_cmp (spelled l.left) (spelled l.right)

abbrev pub decreases-pieces : goal.decreases-pieces
decreases-pieces l = length l.left
