use Rattle.npm_words.proofs.Common.{drop, drop_ends, length, ◌-◌, ◌≡◌, ◌≤◌}
use Rattle.npm_words.proofs.hyphens.skip_marks.Given as goal

abbrev pub invariant-marks : goal.invariant-marks
invariant-marks l = record {
  same : drop_ends l.left ≡ drop_ends l.text;
  fits : length l.left ≤ length l.text;
  ends : drop (length l.text - length l.left) l.text ≡ l.left;
}

abbrev pub decreases-marks : goal.decreases-marks
decreases-marks l = length l.left
