use Rattle.npm_words.proofs.{Common.{arith, nat_tests, number_with}, Grammar.PartialLaw.{great_placed, number-valued}}
use Rattle.npm_words.proofs.places.padded_place.Goals as goal

pub returns-in-Some : goal.returns-in-Some
unfolding number_with
returns-in-Some c = grind (arith, nat_tests, number-valued)

pub returns : goal.returns
unfolding number_with
returns c = grind (arith, nat_tests, great_placed)
