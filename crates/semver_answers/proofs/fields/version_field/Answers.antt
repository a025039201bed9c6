use Rattle.std.proofs.Common.{take}
use Rattle.semver_core.specs.declared.TheConstants.{MAX_SAFE_INTEGER}
use Rattle.semver_answers.proofs.Firsts.{no_marks}
use Rattle.semver_answers.proofs.fields.version_field.Goals as goal

pub mark_at-requires-clause-plain : goal.mark_at-requires-clause-plain
mark_at-requires-clause-plain c =
    no_marks MAX_SAFE_INTEGER (take c.in-Some.end c.args.text.now) c.in-Some.version c.in-Some.ensures.whole
