use Rattle.npm_words.{proofs.Common.{drop, ◌+◌, ◌≡◌}, specs.Internal.Tuples.list_len_in}
use Rattle.npm_words.proofs.coerced.list_len.Given as goal

abbrev pub invariant-characters : goal.invariant-characters
invariant-characters l = list_len_in l.strict l.text ≡ l.at + list_len_in l.strict (drop l.at l.text)
