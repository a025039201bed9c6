use Rattle.semver_core.proofs.Text.Spaces.{drop_spaces-more, drop_spaces-none}
use Rattle.std.proofs.Common.{arith, sym, ◌∙◌}
use Rattle.std.proofs.lemmas.List.{take_rest}
use Rattle.semver_pieces.proofs.spaces.skip_some.Goals as goal

pub returns-then-len-eq0 : goal.returns-then-len-eq0
returns-then-len-eq0 c = sym (drop_spaces-none c.spaces.left.now (omega arith)) ∙ c.spaces.invariant

pub spaces-preserved : goal.spaces-preserved
spaces-preserved c = grind (arith, take_rest, drop_spaces-more)
