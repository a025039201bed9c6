use Rattle.semver_core.proofs.Common.{drop, is_ascii_digit, prefix_len, ◌+◌, ◌≡◌}
use Rattle.semver_pieces.proofs.fronts.digits_len.Given as goal

abbrev pub invariant-digits : goal.invariant-digits
invariant-digits l = prefix_len is_ascii_digit l.text ≡ l.at + prefix_len is_ascii_digit (drop l.at l.text)
