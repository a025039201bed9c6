use Rattle.semver_core.proofs.Common.{id_cmp, length, ◌≡◌, slice_cmp}
use Rattle.semver_core.proofs.borrowed.identifiers.cmp_mixed.Given as goal

abbrev pub invariant-ids : goal.invariant-ids
invariant-ids l = slice_cmp id_cmp l.initial.left l.initial.right ≡ slice_cmp id_cmp l.left l.right

abbrev pub decreases-ids : goal.decreases-ids
decreases-ids l = length l.left
