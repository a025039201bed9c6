use Rattle.npm_words.{proofs.Common.{drop, prefix_len, ◌+◌, ◌≡◌}, specs.Words.is_identifier_char}
use Rattle.npm_words.proofs.inside.run_len.Given as goal

abbrev pub invariant-characters : goal.invariant-characters
invariant-characters l = prefix_len is_identifier_char l.text ≡ l.at + prefix_len is_identifier_char (drop l.at l.text)
