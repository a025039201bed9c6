use Rattle.std.proofs.Common.{refl, ap, arith, length}
use Rattle.std.proofs.lemmas.Result.{on_err_weaker}
use Rattle.semver_answers.specs.Commands.{Match}
use Rattle.semver_answers.specs.Internal.Results.{answered, unasked}
use Rattle.semver_answers.specs.Names.{truth_word}
use Rattle.semver_answers.specs.Replies.{IsRangeOf, IsVersionOf, read}
use Rattle.semver_answers.proofs.Asked.{out_none}
use Rattle.semver_answers.proofs.Behind.{pair, single, three}
use Rattle.semver_answers.proofs.Bytes.{as_it_was}
use Rattle.semver_answers.proofs.Replies.{told_asked, told_fault, told_says, told_second}
use Rattle.semver_answers.proofs.reply.on_outside.Goals as goal

pub returns-in_default-clause-told : goal.returns-in_default-clause-told
returns-in_default-clause-told c =
    (refl, unasked (out_none (omega (arith, ap length (single c.range_field.ensures.cuts c.in_default.is)))) refl)

pub returns-in_default-behind-clause-told : goal.returns-in_default-behind-clause-told
returns-in_default-behind-clause-told c =
    let both = pair c.range_field.ensures.cuts c.in-Fields.is c.version_field-version.ensures.cuts c.in_default-behind.is in
    (refl, unasked (out_none (omega (arith, ap length both))) refl)

pub returns-in_default-outside-clause-told : goal.returns-in_default-outside-clause-told
returns-in_default-outside-clause-told c =
    let r = c.range_field.ensures in
    let v = c.version_field-version.ensures in
    rw (three r.cuts c.in-Fields.is v.cuts c.in-Fields-behind.is)
    (refl, unasked (c.in_default-outside.ensures.none r.field v.field) refl)

pub returns-in_err-range-clause-told : goal.returns-in_err-range-clause-told
returns-in_err-range-clause-told c =
    let r = c.range_field.ensures in
    let v = c.version_field-version.ensures in
    rw (three r.cuts c.in-Fields.is v.cuts c.in-Fields-behind.is)
    (told_asked _ (Match (r.field, v.field) c.in-Some.asked) _ _ _ (c.in-Some.ensures.some r.field v.field)
    (told_fault (IsRangeOf r.field) _ _ _ _ c.from_residual.ensures.1 (c.in_err-range.ensures r.field r.parsed)))

pub returns-in_err-version-clause-told : goal.returns-in_err-version-clause-told
returns-in_err-version-clause-told c =
    let r = c.range_field.ensures in
    let v = c.version_field-version.ensures in
    rw (three r.cuts c.in-Fields.is v.cuts c.in-Fields-behind.is)
    (told_asked _ (Match (r.field, v.field) c.in-Some.asked) _ _ _ (c.in-Some.ensures.some r.field v.field)
    (told_second (IsRangeOf r.field) (IsVersionOf v.field) _ _ _ _ _ (c.in_ok-range.ensures r.field r.parsed)
    c.from_residual-in_err-version.ensures.1 (c.in_err-version.ensures v.field v.parsed)))

pub returns-clause-told : goal.returns-clause-told
returns-clause-told c =
    let r = c.range_field.ensures in
    let v = c.version_field-version.ensures in
    rw (three r.cuts c.in-Fields.is v.cuts c.in-Fields-behind.is)
    (told_says _ c.put_truth.result _ _ _ _ _ c.told.ensures c.put_truth.ensures.ok (on_err_weaker c.put_truth.result (as_it_was _ _) c.put_truth.ensures.err)
    (answered (Match (r.field, v.field) c.in-Some.asked) (c.in-Some.ensures.some r.field v.field)
    (read _ (c.in_ok-range.ensures r.field r.parsed) (read _ (c.in_ok-version.ensures v.field v.parsed) (ap truth_word c.reply.ensures)))))
