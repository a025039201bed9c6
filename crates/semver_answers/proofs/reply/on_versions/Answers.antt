use Rattle.std.proofs.Common.{refl}
use Rattle.semver_answers.specs.Commands.{Versions}
use Rattle.semver_answers.specs.Internal.Results.{answered, unasked}
use Rattle.semver_answers.specs.Replies.{IsVersionOf, read}
use Rattle.semver_answers.proofs.Asked.{versions_asked, versions_none}
use Rattle.semver_answers.proofs.Behind.{one_is_not_two, pair, three_are_not_two}
use Rattle.semver_answers.proofs.Replies.{told_asked, told_fault, told_says, told_second}
use Rattle.semver_answers.proofs.reply.on_versions.Goals as goal

pub returns-in_default-clause-told : goal.returns-in_default-clause-told
returns-in_default-clause-told c =
    (refl, unasked (versions_none c.args.asked (one_is_not_two c.version_field-version.ensures.cuts c.in_default.is)) refl)

pub returns-in_default-behind-clause-told : goal.returns-in_default-behind-clause-told
returns-in_default-behind-clause-told c =
    let v = c.version_field-version.ensures in
    let w = c.version_field-other.ensures in
    (refl, unasked (versions_none c.args.asked (three_are_not_two v.cuts c.in-Fields.is w.cuts c.in_default-behind.is)) refl)

pub returns-in_err-version-clause-told : goal.returns-in_err-version-clause-told
returns-in_err-version-clause-told c =
    let v = c.version_field-version.ensures in
    let w = c.version_field-other.ensures in
    let both = pair v.cuts c.in-Fields.is w.cuts c.in-Lines.is in
    told_asked _ (Versions (v.field, w.field) c.args.asked) _ _ _ (versions_asked c.args.asked both)
    (told_fault (IsVersionOf v.field) _ _ _ _ c.from_residual.ensures.1 (c.in_err-version.ensures v.field v.parsed))

pub returns-in_err-other-clause-told : goal.returns-in_err-other-clause-told
returns-in_err-other-clause-told c =
    let v = c.version_field-version.ensures in
    let w = c.version_field-other.ensures in
    let both = pair v.cuts c.in-Fields.is w.cuts c.in-Lines.is in
    told_asked _ (Versions (v.field, w.field) c.args.asked) _ _ _ (versions_asked c.args.asked both)
    (told_second (IsVersionOf v.field) (IsVersionOf w.field) _ _ _ _ _ (c.in_ok-version.ensures v.field v.parsed)
    c.from_residual-in_err-other.ensures.1 (c.in_err-other.ensures w.field w.parsed))

pub returns-clause-told : goal.returns-clause-told
returns-clause-told c =
    let v = c.version_field-version.ensures in
    let w = c.version_field-other.ensures in
    let both = pair v.cuts c.in-Fields.is w.cuts c.in-Lines.is in
    told_says _ c.reply.result _ _ _ _ _ c.told.ensures c.reply.ensures.ok c.reply.ensures.err
    (answered (Versions (v.field, w.field) c.args.asked) (versions_asked c.args.asked both)
    (read _ (c.in_ok-version.ensures v.field v.parsed) (read _ (c.in_ok-other.ensures w.field w.parsed) refl)))
