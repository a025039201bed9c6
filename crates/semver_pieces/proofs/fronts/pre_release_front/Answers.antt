use Rattle.semver_core.proofs.Common.{Bool, List, arith, drop, nat_tests, take_rest, true, ℕ, ◌∙◌, ◌≡◌}
use Rattle.semver_core.proofs.Text.Ends.{nothing_listed}
use Rattle.semver_core.specs.Internal.Fronts.{begins_byte, marked_list, pre_release_front, pre_release_with}
use Rattle.semver_pieces.proofs.fronts.pre_release_front.Goals as goal

dashed : (dash : Bool) (text : List ℕ) → begins_byte 45 text ≡ true → marked_list text (drop 1 text) ≡ pre_release_with dash text
unfolding pre_release_with pre_release_front
dashed dash text h = grind (arith, nat_tests)

pub returns-in-45-clause-value : goal.returns-in-45-clause-value
returns-in-45-clause-value c =
    rw (take_rest c.args.text.now 1) at c.marked_list.ensures.value ∙ dashed c.args.dash c.args.text.now (grind (arith, nat_tests))

pub returns-in_default-clause-listed : goal.returns-in_default-clause-listed
returns-in_default-clause-listed c = nothing_listed

pub returns-in_default-clause-value : goal.returns-in_default-clause-value
unfolding pre_release_with pre_release_front
returns-in_default-clause-value c = grind (arith, nat_tests)

pub returns-in_default-2-clause-value : goal.returns-in_default-2-clause-value
unfolding pre_release_with pre_release_front
returns-in_default-2-clause-value c = grind (arith, nat_tests)
