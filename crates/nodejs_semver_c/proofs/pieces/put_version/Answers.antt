use Rattle.std.proofs.Common.{sym}
use Rattle.nodejs_semver_c.proofs.Putting.{adds_then}
use Rattle.nodejs_semver_c.proofs.pieces.put_version.Goals as goal

pub returns : goal.returns
returns g c =
    rw (sym c.major.ensures, sym c.minor.ensures, sym c.patch.ensures, sym c.pre_release.ensures, sym c.build.ensures)
    (adds_then c.put_number.ensures (adds_then c.put.ensures (adds_then c.put_number-2.ensures
    (adds_then c.put-2.ensures (adds_then c.put_number-3.ensures
    (adds_then c.put_list.ensures c.put_list-2.ensures))))))
