use Rattle.std.proofs.Common.{arith}
use Rattle.std.proofs.lemmas.Bool.Decides.{nat_tests}
use Rattle.semver_pieces.proofs.spaces.is_space_of_three.Goals as goal

pub returns-then-goes_on_with-2 : goal.returns-then-goes_on_with-2
returns-then-goes_on_with-2 c = grind (arith, nat_tests)
