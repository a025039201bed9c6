use Rattle.std.proofs.Common.{map, refl, take, take_all}
use Rattle.nodejs_semver_c.proofs.Choosing.{best_new, best_same}
use Rattle.nodejs_semver_c.proofs.Places.{best_of_none}
use Rattle.nodejs_semver_c.specs.Kept.{kept_value}
use Rattle.nodejs_semver_c.specs.KeptRanges.{kept_span}
use Rattle.nodejs_semver_c.proofs.kept_ranges.best_of.Goals.{else-is_new_best, then-is_new_best}
use Rattle.nodejs_semver_c.proofs.kept_ranges.best_of.Goals as goal

pub versions-init : goal.versions-init
versions-init c = ((best_of_none c.args.which (map kept_span c.args.range.now) c.args.include_prerelease, tt), refl)

pub versions-preserved : goal.versions-preserved
versions-preserved c =
    let list = c.args.versions.now in
    let at = c.versions.at in
    let is = c.is_new_best.ensures (map kept_value (take at list)) c.versions.invariant.0.0 in
    elim c.if-is_new_best.branch [
      | then-is_new_best w ↦ (
        rw (w.best-is, w.place-is) (best_new list at c.versions-test.true c.args.which (map kept_span c.args.range.now) c.args.include_prerelease
            _ _ c.versions.invariant.0 (rw w.if-is_new_best.true at is)),
        c.versions.invariant.1,
      )
      | else-is_new_best w ↦ (
        rw (w.best-is, w.place-is) (best_same list at c.versions-test.true c.args.which (map kept_span c.args.range.now) c.args.include_prerelease
            _ _ c.versions.invariant.0 (rw w.if-is_new_best.false at is)),
        c.versions.invariant.1,
      )
    ]

pub returns-in-None : goal.returns-in-None
returns-in-None c =
    let h = rw (take_all c.versions.at c.args.versions.now c.versions-test.false, c.in-None.is) at c.versions.invariant in
    (_, h.0.0, (refl, refl))

pub returns-in-Some : goal.returns-in-Some
returns-in-Some c =
    let h = rw (take_all c.versions.at c.args.versions.now c.versions-test.false, c.in-Some.is) at c.versions.invariant in
    (_, h.0.0, (refl, h.0.1))
