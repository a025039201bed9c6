use Rattle.semver_core.specs.Internal.Parts.{bars_at}
use Rattle.std.proofs.Common.{drop, ◌+◌, ◌≡◌}
use Rattle.semver_pieces.proofs.bars.bars_at.Given as goal

abbrev pub invariant-bytes : goal.invariant-bytes
invariant-bytes l = bars_at l.text ≡ l.at + bars_at (drop l.at l.text)
