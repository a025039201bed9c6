use Rattle.npm_words.proofs.{Common.{arith, common_steps, nat_tests, take_rest}, Grammar.InsideParts.digits_most}
use Rattle.npm_words.specs.Internal.Inside.{behind_place}
use Rattle.npm_words.proofs.inside.behind_place.Goals as goal

pub returns-after-strict-2 : goal.returns-after-strict-2
unfolding behind_place
returns-after-strict-2 c = grind (arith, nat_tests, common_steps, take_rest, digits_most)
