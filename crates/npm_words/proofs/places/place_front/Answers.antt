use Rattle.npm_words.proofs.Common.{arith, common_steps, place_front, take_rest}
use Rattle.npm_words.proofs.places.place_front.Goals as goal

pub returns-in-None : goal.returns-in-None
unfolding place_front
returns-in-None c = grind (arith, take_rest, common_steps)
