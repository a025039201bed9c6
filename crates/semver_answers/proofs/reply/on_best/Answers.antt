use Rattle.std.proofs.Common.{refl}
use Rattle.semver_answers.specs.Commands.{Best}
use Rattle.semver_answers.specs.Internal.Ahead.{fields_ahead, first_line}
use Rattle.semver_answers.specs.Internal.Results.{answered, unasked}
use Rattle.semver_answers.specs.Replies.{AreVersionsOf, IsRangeOf, read}
use Rattle.semver_answers.proofs.Asked.{best_asked, best_none}
use Rattle.semver_answers.proofs.Behind.{onward, single}
use Rattle.semver_answers.proofs.Replies.{best_reply, told_asked, told_fault, told_says, told_second}
use Rattle.semver_answers.proofs.reply.on_best.Goals as goal

pub returns-in_default-clause-told : goal.returns-in_default-clause-told
returns-in_default-clause-told c =
    let r = c.range_field.ensures in
    rw (single r.cuts c.in_default.is) (refl, unasked (best_none c.args.asked r.field) refl)

pub returns-in_err-range-clause-told : goal.returns-in_err-range-clause-told
returns-in_err-range-clause-told c =
    let r = c.range_field.ensures in
    let vs = first_line c.in-Fields.versions.now in
    told_asked _ (Best (r.field, vs) c.args.asked) _ _ _ (best_asked c.args.asked vs (onward r.cuts c.in-Fields.is))
    (told_fault (IsRangeOf r.field) _ _ _ _ c.from_residual.ensures.1 (c.in_err-range.ensures r.field r.parsed))

pub returns-in_err-best-clause-told : goal.returns-in_err-best-clause-told
returns-in_err-best-clause-told c =
    let r = c.range_field.ensures in
    let vs = first_line c.in-Fields.versions.now in
    told_asked _ (Best (r.field, vs) c.args.asked) _ _ _ (best_asked c.args.asked vs (onward r.cuts c.in-Fields.is))
    (told_second (IsRangeOf r.field) (AreVersionsOf (fields_ahead c.in-Fields.versions.now)) _ _ _ _ _ (c.in_ok-range.ensures r.field r.parsed)
    c.from_residual-in_err-best.ensures.1 c.in_err-best.ensures.fault)

pub returns-clause-told : goal.returns-clause-told
returns-clause-told c =
    let r = c.range_field.ensures in
    let vs = first_line c.in-Fields.versions.now in
    let best = c.in_ok-best.ensures.best in
    told_says _ c.put_borrowed.result _ _ _ _ _ c.told.ensures c.put_borrowed.ensures.ok c.put_borrowed.ensures.err
    (answered (Best (r.field, vs) c.args.asked) (best_asked c.args.asked vs (onward r.cuts c.in-Fields.is))
    (read _ (c.in_ok-range.ensures r.field r.parsed) (read _ best.read (best_reply c.args.asked _ best.versions _ _ best.is refl))))
