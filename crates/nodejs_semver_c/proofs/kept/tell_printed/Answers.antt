use Rattle.std.proofs.Common.{arith}
use Rattle.nodejs_semver_c.proofs.Keeping.{printed_told}
use Rattle.nodejs_semver_c.proofs.Putting.{adds_then}
use Rattle.nodejs_semver_c.proofs.kept.tell_printed.Goals as goal

pub returns : goal.returns
returns c = printed_told c.args.version.now c.requires.pre_release c.requires.build _ _ _ _ _
    c.saturating_add-size.ensures (omega (arith, c.if-size-gt-MOST_BYTES.false)) (omega (arith, c.if-out-size.false))
    (adds_then c.put_bytes.ensures c.put_bytes-2.ensures)
