use Rattle.semver_core.proofs.Common.{is_listed, listed, id_cmp, length, true, ◌≡◌, slice_cmp}
use Rattle.semver_core.proofs.borrowed.dotted.cmp_texts.Given as goal

abbrev pub invariant-ids : goal.invariant-ids
invariant-ids l = record {
  same : slice_cmp id_cmp (listed l.a) (listed l.b) ≡ slice_cmp id_cmp (listed l.left) (listed l.right);
  left : is_listed l.left ≡ true;
  right : is_listed l.right ≡ true;
}

abbrev pub decreases-ids : goal.decreases-ids
decreases-ids l = length l.left
