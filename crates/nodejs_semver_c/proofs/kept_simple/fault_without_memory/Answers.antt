use Rattle.std.proofs.Common.{◌∷◌, ◌++◌, [], get_or, inl, inr, refl, take_all}
use Rattle.std.proofs.lemmas.List.{take_more}
use Rattle.nodejs_semver_c.proofs.Places.{AllZip-append, refused_at}
use Rattle.nodejs_semver_c.proofs.Ranging.{no_version}
use Rattle.nodejs_semver_c.specs.Kept.{IsKept, RefusesKept, kept_value}
use Rattle.nodejs_semver_c.proofs.kept_simple.fault_without_memory.Goals as goal

pub versions-init : goal.versions-init
versions-init c = (([], tt), refl)

pub returns-in-Err : goal.returns-in-Err
returns-in-Err c =
    let ((vs, read), kept) = c.versions.invariant in
    inl (refused_at IsKept RefusesKept _ _ _ no_version vs c.versions-test.true read c.in-Err.ensures.refused)

pub versions-preserved : goal.versions-preserved
versions-preserved c =
    let ((vs, read), kept) = c.versions.invariant in
    let p = get_or c.args.versions.now c.versions.at no_version in
    let one : IsKept p (kept_value p) = (c.in_default.ensures.ok.0, c.in_default.ensures.ok.1, refl) in (
      (
        vs ++ kept_value p ∷ [],
        rw (take_more c.args.versions.now c.versions.at no_version c.versions-test.true) (AllZip-append _ _ _ vs _ read (one, tt)),
      ),
      kept,
    )

pub returns : goal.returns
returns c =
    let ((vs, read), kept) = c.versions.invariant in
    inr (refl, kept, (vs, rw (take_all c.versions.at c.args.versions.now c.versions-test.false) at read))
