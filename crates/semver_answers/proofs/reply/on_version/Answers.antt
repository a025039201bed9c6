use Rattle.std.proofs.Common.{refl}
use Rattle.semver_answers.specs.Commands.{Version}
use Rattle.semver_answers.specs.Internal.Results.{answered, unasked}
use Rattle.semver_answers.specs.Replies.{IsVersionOf, read}
use Rattle.semver_answers.specs.declared.question.AboutVersion.TheVariants.{Ver}
use Rattle.semver_answers.proofs.Asked.{ver_asked, ver_none}
use Rattle.semver_answers.proofs.Behind.{several, single}
use Rattle.semver_answers.proofs.Replies.{told_asked, told_fault, told_says}
use Rattle.semver_answers.proofs.reply.on_version.Goals as goal

pub returns-in_default-clause-told : goal.returns-in_default-clause-told
returns-in_default-clause-told c =
    (refl, unasked (ver_none (several c.version_field-version.ensures.cuts c.in_default.is)) refl)

pub returns-in_err-version-clause-told : goal.returns-in_err-version-clause-told
returns-in_err-version-clause-told c =
    let v = c.version_field-version.ensures in
    told_asked _ (Version v.field Ver) _ _ _ (ver_asked (single v.cuts c.in-Lines.is))
    (told_fault (IsVersionOf v.field) _ _ _ _ c.from_residual.ensures.1 (c.in_err-version.ensures v.field v.parsed))

pub returns-clause-told : goal.returns-clause-told
returns-clause-told c =
    let v = c.version_field-version.ensures in
    told_says _ c.reply.result _ _ _ _ _ c.told.ensures c.reply.ensures.ok c.reply.ensures.err
    (answered (Version v.field Ver) (ver_asked (single v.cuts c.in-Lines.is))
    (read _ (c.in_ok-version.ensures v.field v.parsed) refl))
