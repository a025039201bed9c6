use Rattle.std.proofs.Common.{sym}
use Rattle.std.proofs.lemmas.Fmt.{decimal_digit}
use Rattle.nodejs_semver_c.proofs.Putting.{adds_same}
use Rattle.nodejs_semver_c.proofs.pieces.put_number.Goals as goal

pub returns-then-number-lt10 : goal.returns-then-number-lt10
returns-then-number-lt10 c = adds_same (sym (decimal_digit c.args.number c.if-number-lt10.true)) c.put_bytes.ensures
