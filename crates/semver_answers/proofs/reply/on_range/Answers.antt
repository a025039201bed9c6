use Rattle.std.proofs.Common.{refl}
use Rattle.semver_answers.specs.Commands.{Range}
use Rattle.semver_answers.specs.Internal.Results.{unasked}
use Rattle.semver_answers.specs.Replies.{IsRangeOf, read}
use Rattle.semver_answers.proofs.Asked.{range_asked, range_none}
use Rattle.semver_answers.proofs.Behind.{several, single}
use Rattle.semver_answers.proofs.Replies.{told_asked, told_fault, told_put, told_weaker}
use Rattle.semver_answers.proofs.reply.on_range.Goals as goal

pub returns-in_default-clause-told : goal.returns-in_default-clause-told
returns-in_default-clause-told c =
    (refl, unasked (range_none c.args.asked (several c.range_field.ensures.cuts c.in_default.is)) refl)

pub returns-in_err-range-clause-told : goal.returns-in_err-range-clause-told
returns-in_err-range-clause-told c =
    let r = c.range_field.ensures in
    told_asked _ (Range r.field c.args.asked) _ _ _ (range_asked c.args.asked (single r.cuts c.in-Lines.is))
    (told_fault (IsRangeOf r.field) _ _ _ _ c.from_residual.ensures.1 (c.in_err-range.ensures r.field r.parsed))

pub returns-clause-told : goal.returns-clause-told
returns-clause-told c =
    let r = c.range_field.ensures in
    told_asked _ (Range r.field c.args.asked) c.told.result _ _ (range_asked c.args.asked (single r.cuts c.in-Lines.is))
    (told_weaker _ _ c.told.result _ _ (λ reply. read _ (c.in_ok-range.ensures r.field r.parsed))
    (told_put _ c.reply.result _ _ _ _ c.told.ensures c.reply.ensures))
