use Rattle.std.proofs.Common.{refl}
use Rattle.semver_answers.specs.Commands.{Ranges}
use Rattle.semver_answers.specs.Internal.Results.{unasked}
use Rattle.semver_answers.specs.Replies.{IsRangeOf, read}
use Rattle.semver_answers.proofs.Asked.{ranges_asked, ranges_none}
use Rattle.semver_answers.proofs.Behind.{one_is_not_two, pair, three_are_not_two}
use Rattle.semver_answers.proofs.Replies.{told_asked, told_fault, told_put, told_second, told_weaker}
use Rattle.semver_answers.proofs.reply.on_ranges.Goals as goal

pub returns-in_default-clause-told : goal.returns-in_default-clause-told
returns-in_default-clause-told c =
    (refl, unasked (ranges_none c.args.asked (one_is_not_two c.range_field.ensures.cuts c.in_default.is)) refl)

pub returns-in_default-behind-clause-told : goal.returns-in_default-behind-clause-told
returns-in_default-behind-clause-told c =
    let r = c.range_field.ensures in
    let s = c.range_field-2.ensures in
    (refl, unasked (ranges_none c.args.asked (three_are_not_two r.cuts c.in-Fields.is s.cuts c.in_default-behind.is)) refl)

pub returns-in_err-range-clause-told : goal.returns-in_err-range-clause-told
returns-in_err-range-clause-told c =
    let r = c.range_field.ensures in
    let s = c.range_field-2.ensures in
    let both = pair r.cuts c.in-Fields.is s.cuts c.in-Lines.is in
    told_asked _ (Ranges (r.field, s.field) c.args.asked) _ _ _ (ranges_asked c.args.asked both)
    (told_fault (IsRangeOf r.field) _ _ _ _ c.from_residual.ensures.1 (c.in_err-range.ensures r.field r.parsed))

pub returns-in_err-other-clause-told : goal.returns-in_err-other-clause-told
returns-in_err-other-clause-told c =
    let r = c.range_field.ensures in
    let s = c.range_field-2.ensures in
    let both = pair r.cuts c.in-Fields.is s.cuts c.in-Lines.is in
    told_asked _ (Ranges (r.field, s.field) c.args.asked) _ _ _ (ranges_asked c.args.asked both)
    (told_second (IsRangeOf r.field) (IsRangeOf s.field) _ _ _ _ _ (c.in_ok-range.ensures r.field r.parsed)
    c.from_residual-in_err-other.ensures.1 (c.in_err-other.ensures s.field s.parsed))

pub returns-clause-told : goal.returns-clause-told
returns-clause-told c =
    let r = c.range_field.ensures in
    let s = c.range_field-2.ensures in
    let both = pair r.cuts c.in-Fields.is s.cuts c.in-Lines.is in
    told_asked _ (Ranges (r.field, s.field) c.args.asked) c.told.result _ _ (ranges_asked c.args.asked both)
    (told_weaker _ _ c.told.result _ _ (λ reply h. read _ (c.in_ok-range.ensures r.field r.parsed) (read _ (c.in_ok-other.ensures s.field s.parsed) h))
    (told_put _ c.reply.result _ _ _ _ c.told.ensures c.reply.ensures))
