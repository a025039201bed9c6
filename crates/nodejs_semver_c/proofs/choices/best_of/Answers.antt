use Rattle.std.proofs.Common.{◌∷◌, ◌++◌, [], arith, false, length-append, refl, take_all}
use Rattle.std.proofs.lemmas.List.{take_more}
use Rattle.nodejs_semver_c.proofs.Places.{AllZip-append, best_of_none, tells_none, tells_refused, tells_some}
use Rattle.nodejs_semver_c.specs.Answers.{IsVersionOf, RefusesVersion}
use Rattle.nodejs_semver_c.proofs.choices.best_of.Goals as goal

pub versions-init : goal.versions-init
versions-init c = ([], (refl, (tt, ((best_of_none c.args.which c.args.range.now false, tt), refl))))

pub returns-in-Err : goal.returns-in-Err
returns-in-Err c =
    let (vs, (counted, (read, (best, kept)))) = c.versions.invariant in
    tells_refused (λ text v. IsVersionOf c.args.reading text.now v) (λ text. RefusesVersion c.args.reading text.now) _ _ _ _ _ (record { ref_ptr = (0, 0); now = [] }) vs c.versions-test.true read c.in-Err.ensures.refused

pub versions-preserved : goal.versions-preserved
versions-preserved c =
    let (vs, (counted, (read, (best, kept)))) = c.versions.invariant in (
      vs ++ c.in-Ok.version ∷ [],
      (
        omega (arith, length-append vs (c.in-Ok.version ∷ []), counted),
        (
          rw (take_more c.args.versions.now c.versions.at (record { ref_ptr = (0, 0); now = [] }) c.versions-test.true) (AllZip-append _ _ _ vs _ read (c.in-Ok.ensures.ok, tt)),
          (c.keep_better.ensures vs counted best, kept),
        ),
      ),
    )

pub returns-in-None : goal.returns-in-None
returns-in-None c =
    let (vs, (counted, (read, (best, kept)))) = c.versions.invariant in
    tells_none (λ text v. IsVersionOf c.args.reading text.now v) (λ text. RefusesVersion c.args.reading text.now) _ _ vs _ _ _ _ c.in-None.is (rw (take_all c.versions.at c.args.versions.now c.versions-test.false) at read) best kept

pub returns-in-Some : goal.returns-in-Some
returns-in-Some c =
    let (vs, (counted, (read, (best, kept)))) = c.versions.invariant in
    tells_some (λ text v. IsVersionOf c.args.reading text.now v) (λ text. RefusesVersion c.args.reading text.now) _ _ vs _ _ _ _ c.in-Some.is (rw (take_all c.versions.at c.args.versions.now c.versions-test.false) at read) best
