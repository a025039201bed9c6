use Rattle.semver_core.proofs.Reading.Boundaries.{from_boundary-more, from_boundary-nil, from_boundary-stop}
use Rattle.std.proofs.Common.{arith}
use Rattle.std.proofs.lemmas.List.{drop_all, take_rest}
use Rattle.semver_pieces.proofs.boundaries.skip_to_boundary.Goals as goal

pub returns-then-is_boundary : goal.returns-then-is_boundary
returns-then-is_boundary c = grind (arith, take_rest, from_boundary-stop)

pub bytes-preserved : goal.bytes-preserved
bytes-preserved c = grind (arith, take_rest, from_boundary-more)

pub returns : goal.returns
returns c = grind (arith, drop_all, take_rest, from_boundary-nil)
