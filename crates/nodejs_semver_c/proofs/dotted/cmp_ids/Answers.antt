use Rattle.std.proofs.Common.{◌∙◌, sym}
use Rattle.semver_core.proofs.Text.Digits.{scan_number}
use Rattle.nodejs_semver_c.proofs.dotted.cmp_ids.Goals as goal

pub returns-in-Some-Some : goal.returns-in-Some-Some
returns-in-Some-Some c =
    let first = scan_number c.args.piece.now c.in-Some-Some.number (sym c.in-Some-Some.is-0 ∙ c.requires.piece) in
    let second = scan_number c.args.other.now c.in-Some-Some.value (sym c.in-Some-Some.is-1 ∙ c.requires.other) in
    rw (first, second) c.cmp.ensures
