use Rattle.semver_core.specs.Internal.Boundaries.{from_boundary}
use Rattle.std.proofs.Common.{drop, ◌≡◌}
use Rattle.semver_pieces.proofs.boundaries.skip_to_boundary.Given as goal

abbrev pub invariant-bytes : goal.invariant-bytes
invariant-bytes l = from_boundary l.text ≡ from_boundary (drop l.at l.text)
