use Rattle.npm_words.proofs.Common.{get_or, is_mark, length, true, ℕ, ◌<◌, ◌≡◌, ◌≤◌}
use Rattle.npm_words.proofs.hyphens.last_marks.Given as goal

abbrev pub invariant-marks : goal.invariant-marks
invariant-marks l = record {
  fits : l.start ≤ length l.marks;
  each : (k : ℕ) → l.start ≤ k → k < length l.marks → is_mark (get_or l.marks k 0) ≡ true;
}

abbrev pub decreases-marks : goal.decreases-marks
decreases-marks l = l.start
