use Rattle.std.proofs.Common.{refl, ap, length}
use Rattle.semver_answers.specs.Commands.{Version}
use Rattle.semver_answers.specs.Internal.Results.{answered, unasked}
use Rattle.semver_answers.specs.Replies.{IsVersionOf, read}
use Rattle.semver_answers.proofs.Asked.{inc_none}
use Rattle.semver_answers.proofs.Behind.{onward, single}
use Rattle.semver_answers.proofs.Replies.{told_asked, told_fault, told_says}
use Rattle.semver_answers.proofs.reply.on_increment.Goals as goal

pub returns-in_default-clause-told : goal.returns-in_default-clause-told
returns-in_default-clause-told c =
    (refl, unasked (inc_none (ap length (single c.version_field-version.ensures.cuts c.in_default.is))) refl)

pub returns-in_default-increment-clause-told : goal.returns-in_default-increment-clause-told
returns-in_default-increment-clause-told c =
    let v = c.version_field-version.ensures in
    rw (onward v.cuts c.in-Fields.is) (refl, unasked (c.in_default-increment.ensures.none v.field) refl)

pub returns-in_err-version-clause-told : goal.returns-in_err-version-clause-told
returns-in_err-version-clause-told c =
    let v = c.version_field-version.ensures in
    rw (onward v.cuts c.in-Fields.is)
    (told_asked _ (Version v.field c.in-Some.asked) _ _ _ (c.in-Some.ensures.some v.field)
    (told_fault (IsVersionOf v.field) _ _ _ _ c.from_residual.ensures.1 (c.in_err-version.ensures v.field v.parsed)))

pub returns-clause-told : goal.returns-clause-told
returns-clause-told c =
    let v = c.version_field-version.ensures in
    rw (onward v.cuts c.in-Fields.is)
    (told_says _ c.reply.result _ _ _ _ _ c.told.ensures c.reply.ensures.ok c.reply.ensures.err
    (answered (Version v.field c.in-Some.asked) (c.in-Some.ensures.some v.field)
    (read _ (c.in_ok-version.ensures v.field v.parsed) refl)))
