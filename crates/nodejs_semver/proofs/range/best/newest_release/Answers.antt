use Rattle.nodejs_semver.proofs.Common.{arith, is_release, refl, take_all, value_of}
use Rattle.nodejs_semver.proofs.Questions.Best.{max_further, max_version, replaces_both}
use Rattle.nodejs_semver.proofs.range.best.newest_release.Goals as goal

pub loop-version-preserved : goal.loop-version-preserved
loop-version-preserved g c =
    let value = g.W.Versioned.value in
    let best = value_of value c.loop-version.best in
    let both = replaces_both _ is_release best (value c.version-item.result) _ c.is_none_above.ensures in
    max_further value is_release c.args.versions.now _ c.version-item.result _ _ _ c.loop-version-test.true c.version-item.is
    (grind (arith, both)) refl c.loop-version.invariant

pub returns : goal.returns
returns g c =
    let element = rw (take_all _ c.args.versions.now c.loop-version-test.false) at c.loop-version.invariant in
    record { best = max_version g.W.Versioned.value is_release c.args.versions.now _ element; element = element }
