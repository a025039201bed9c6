use Rattle.std.proofs.Common.{None, drop, ◌≡◌}
use Rattle.nodejs_semver_c.specs.Internal.Dotted.{piece_from}
use Rattle.nodejs_semver_c.proofs.dotted.piece_end.Given as goal

abbrev pub invariant-bytes : goal.invariant-bytes
invariant-bytes l = piece_from None l.start (drop l.start l.text) ≡ piece_from None l.end (drop l.end l.text)
