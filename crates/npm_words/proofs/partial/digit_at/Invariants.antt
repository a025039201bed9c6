use Rattle.npm_words.proofs.Common.{drop, is_ascii_digit, not, prefix_len, ◌+◌, ◌≡◌}
use Rattle.npm_words.proofs.partial.digit_at.Given as goal

abbrev pub invariant-marks : goal.invariant-marks
invariant-marks l = prefix_len (λ b. not (is_ascii_digit b)) l.text
    ≡ l.at + prefix_len (λ b. not (is_ascii_digit b)) (drop l.at l.text)
