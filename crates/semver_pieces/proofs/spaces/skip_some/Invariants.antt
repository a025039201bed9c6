use Rattle.semver_core.specs.Internal.Spaces.{drop_spaces}
use Rattle.std.proofs.Common.{length, ◌≡◌}
use Rattle.semver_pieces.proofs.spaces.skip_some.Given as goal

abbrev pub invariant-spaces : goal.invariant-spaces
invariant-spaces l = drop_spaces l.left ≡ drop_spaces l.text

abbrev pub decreases-spaces : goal.decreases-spaces
decreases-spaces l = length l.left
