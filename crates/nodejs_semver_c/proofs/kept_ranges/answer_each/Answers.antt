use Rattle.nodejs_semver_c.proofs.Choosing.{each_filled}
use Rattle.nodejs_semver_c.proofs.kept_ranges.answer_each.Goals as goal

pub versions-preserved : goal.versions-preserved
versions-preserved c = each_filled c.args.versions.now c.versions.at c.versions-test.true _ c.args.answers.now _ c.answer_of.result
    c.requires c.versions.invariant c.answer_of.ensures
