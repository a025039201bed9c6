use Rattle.std.proofs.Common.{arith}
use Rattle.std.proofs.lemmas.Bool.Decides.{nat_tests}
use Rattle.semver_pieces.proofs.spaces.is_space_of_two.Goals as goal

pub returns-then-goes_on_with : goal.returns-then-goes_on_with
returns-then-goes_on_with c = grind (arith, nat_tests)
