use Rattle.npm_words.specs.Internal.Tuples.{BeginsAfter}
use Rattle.npm_words.proofs.coerced.chosen_place.Given as goal

abbrev pub invariant-places : goal.invariant-places
invariant-places l = BeginsAfter l.text l.at
