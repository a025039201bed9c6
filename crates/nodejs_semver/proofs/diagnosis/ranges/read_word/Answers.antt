use Rattle.nodejs_semver.proofs.Common.{MAX_SAFE_INTEGER, arith, refl}
use Rattle.nodejs_semver.proofs.Diagnosing.IgnoredParts.{kind-of, rest-sizes, word_read}
use Rattle.nodejs_semver.proofs.diagnosis.ranges.read_word.Goals as goal

pub overflow_sub-end : goal.overflow_sub-end
overflow_sub-end c =
    let sizes = rest-sizes MAX_SAFE_INTEGER _ _ _ _ c.requires c.args.left.starts (kind-of _ _ _ c.word_front-word.ensures) refl in
    omega (arith, c.args.left.part_fits, sizes.0)

pub invariant_of-rest : goal.invariant_of-rest
invariant_of-rest c =
    let sizes = rest-sizes MAX_SAFE_INTEGER _ _ _ _ c.requires c.args.left.starts (kind-of _ _ _ c.word_front-word.ensures) c.skip_spaces.ensures in
    record {
      starts = sizes.2;
      part_fits = omega (arith, sizes.0, sizes.1, c.args.left.part_fits);
      behind_fits = c.args.left.behind_fits;
    }

pub returns-clause-same : goal.returns-clause-same
returns-clause-same c =
    let kind = kind-of _ _ _ c.word_front-word.ensures in
    word_read MAX_SAFE_INTEGER c.args.left.part_end _ _ _ _ c.map-word.result _ c.requires c.args.left.starts kind c.skip_spaces.ensures (grind arith)

pub returns-clause-less : goal.returns-clause-less
returns-clause-less c =
    let sizes = rest-sizes MAX_SAFE_INTEGER _ _ _ _ c.requires c.args.left.starts (kind-of _ _ _ c.word_front-word.ensures) c.skip_spaces.ensures in
    omega (arith, sizes.0, sizes.1)
