use Rattle.std.proofs.Common.{arith, refl}
use Rattle.nodejs_semver_c.proofs.Keeping.{both_counted, fits_memory, parts_counted, version_short, version_told}
use Rattle.nodejs_semver_c.proofs.Putting.{adds_then}
use Rattle.nodejs_semver_c.proofs.kept.tell.Goals as goal

pub returns-then-out-needed : goal.returns-then-out-needed
returns-then-out-needed g c =
    let counted = both_counted _ _ _ _ _ c.counted-pre_release_len.ensures c.counted-build_len.ensures c.saturating_add-needed.ensures in
    let small = fits_memory _ _ counted (omega (arith, c.if-needed-gt-MOST_BYTES.false)) in
    let told = parts_counted _ _ _ _ _ _ _ _ c.major.ensures c.minor.ensures c.patch.ensures c.pre_release-pre_release.ensures
    c.build-build.ensures c.counted-pre_release_len.ensures c.counted-build_len.ensures
    (rw (c.pre_release-pre_release.ensures, c.build-build.ensures) at small) in
    version_short _ _ _ _ _ _ _ _ told c.pre_release-pre_release.ensures c.build-build.ensures counted
    (omega (arith, c.if-needed-gt-MOST_BYTES.false)) (omega (arith, c.if-out-needed.true)) refl

pub returns : goal.returns
returns g c =
    let counted = both_counted _ _ _ _ _ c.counted-pre_release_len.ensures c.counted-build_len.ensures c.saturating_add-needed.ensures in
    let small = fits_memory _ _ counted (omega (arith, c.if-needed-gt-MOST_BYTES.false)) in
    let told = parts_counted _ _ _ _ _ _ _ _ c.major.ensures c.minor.ensures c.patch.ensures c.pre_release-pre_release.ensures
    c.build-build.ensures c.counted-pre_release_len.ensures c.counted-build_len.ensures
    (rw (c.pre_release-pre_release.ensures, c.build-build.ensures) at small) in
    version_told _ _ _ _ _ _ _ _ _ told c.pre_release-pre_release.ensures c.build-build.ensures counted
    (omega (arith, c.if-needed-gt-MOST_BYTES.false)) (omega (arith, c.if-out-needed.false))
    (adds_then c.put_ids.ensures c.put_ids-2.ensures)
