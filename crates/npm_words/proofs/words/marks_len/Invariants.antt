use Rattle.npm_words.proofs.Common.{drop, marks_len, ◌+◌, ◌≡◌}
use Rattle.npm_words.proofs.words.marks_len.Given as goal

abbrev pub invariant-marks : goal.invariant-marks
invariant-marks l = marks_len l.text ≡ l.at + marks_len (drop l.at l.text)
