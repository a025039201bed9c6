use Rattle.std.proofs.Common.{◌∷◌, ◌++◌, [], arith, inl, length-append, refl, rules, take_all}
use Rattle.std.proofs.lemmas.List.{take_more}
use Rattle.nodejs_semver_c.proofs.Places.{AllZip-append, refused_at}
use Rattle.nodejs_semver_c.proofs.Sorting.{placed_more}
use Rattle.nodejs_semver_c.specs.Answers.{IsVersionOf, RefusesVersion}
use Rattle.nodejs_semver_c.proofs.sort.read_all.Goals as goal

pub versions-init : goal.versions-init
versions-init c = ([], (refl, (tt, (c.requires, refl))))

pub returns-in-Err-clause-refused : goal.returns-in-Err-clause-refused
returns-in-Err-clause-refused c =
    let (vs, (counted, (read, (all, kept)))) = c.versions.invariant in
    inl (refused_at (λ text v. IsVersionOf c.args.reading text.now v) (λ text. RefusesVersion c.args.reading text.now) _ _ _ _ vs c.versions-test.true read c.in-Err.ensures.refused)

pub versions-preserved : goal.versions-preserved
versions-preserved c =
    let (vs, (counted, (read, (all, kept)))) = c.versions.invariant in (
      vs ++ c.in-Ok.version ∷ [],
      (
        omega (arith, length-append vs (c.in-Ok.version ∷ []), counted),
        (
          rw (take_more c.args.versions.now c.versions.at (record { ref_ptr = (0, 0); now = [] }) c.versions-test.true) (AllZip-append _ _ _ vs _ read (c.in-Ok.ensures.ok, tt)),
          (search (rules, all, counted, placed_more vs c.in-Ok.version), kept),
        ),
      ),
    )

pub returns-clause-ok : goal.returns-clause-ok
returns-clause-ok c =
    let (vs, (counted, (read, (all, kept)))) = c.versions.invariant in
    (kept, (vs, rw (take_all c.versions.at c.args.versions.now c.versions-test.false) at read, all))
