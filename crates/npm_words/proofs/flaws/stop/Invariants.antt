use Rattle.npm_words.proofs.FlawPlaces.Stops.{Passed}
use Rattle.npm_words.proofs.flaws.stop.Given as goal

abbrev pub invariant-letters : goal.invariant-letters
invariant-letters l = Passed l.text l.at l.state l.letter-iterator.rest.now l.yielded
