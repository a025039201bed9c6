use Rattle.std.proofs.Common.{Some, drop, ◌≡◌}
use Rattle.nodejs_semver_c.specs.Internal.Dotted.{piece_from}
use Rattle.nodejs_semver_c.proofs.dotted.first_piece.Given as goal

abbrev pub invariant-digits : goal.invariant-digits
invariant-digits l = piece_from (Some 0) 0 l.text ≡ piece_from (Some l.number) l.end (drop l.end l.text)
