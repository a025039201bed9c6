use Rattle.std.proofs.Common.{ap, arith, refl}
use Rattle.std.proofs.lemmas.Result.{on_err_weaker}
use Rattle.semver_answers.specs.Commands.{Match}
use Rattle.semver_answers.specs.Internal.Results.{answered, unasked}
use Rattle.semver_answers.specs.Names.{truth_word}
use Rattle.semver_answers.specs.Replies.{IsRangeOf, IsVersionOf, read}
use Rattle.semver_answers.proofs.Asked.{match_asked, match_none}
use Rattle.semver_answers.proofs.Behind.{one_is_not_two, pair, three_are_not_two}
use Rattle.semver_answers.proofs.Bytes.{as_it_was}
use Rattle.semver_answers.proofs.Replies.{told_asked, told_fault, told_says, told_second}
use Rattle.semver_answers.proofs.reply.on_match.Goals as goal

-- ---- the range is one word

pub returns-in_default-behind-clause-told : goal.returns-in_default-behind-clause-told
returns-in_default-behind-clause-told c =
    let r = c.in-Some.ensures in
    let v = c.version_field-version.ensures in
    (refl, unasked (match_none c.args.asked c.requires.two (three_are_not_two r.cuts refl v.cuts c.in_default-behind.is)) refl)

pub returns-in_err-version-clause-told : goal.returns-in_err-version-clause-told
returns-in_err-version-clause-told c =
    let r = c.in-Some.ensures in
    let v = c.version_field-version.ensures in
    let both = pair r.cuts refl v.cuts c.in-Lines.is in
    told_asked _ (Match (r.field, v.field) c.args.asked) _ _ _ (match_asked c.args.asked c.requires.two both)
    (told_second (IsRangeOf r.field) (IsVersionOf v.field) _ _ _ _ _ (r.means, omega arith)
    c.from_residual.ensures.1 (c.in_err-version.ensures v.field v.parsed))

pub returns-in-Some-clause-told : goal.returns-in-Some-clause-told
returns-in-Some-clause-told c =
    let r = c.in-Some.ensures in
    let v = c.version_field-version.ensures in
    let both = pair r.cuts refl v.cuts c.in-Lines.is in
    told_says _ c.put_truth.result _ _ _ _ _ c.told.ensures c.put_truth.ensures.ok (on_err_weaker c.put_truth.result (as_it_was _ _) c.put_truth.ensures.err)
    (answered (Match (r.field, v.field) c.args.asked) (match_asked c.args.asked c.requires.two both)
    (read _ (r.means, omega arith) (read _ (c.in_ok-version.ensures v.field v.parsed) (ap truth_word c.reply_in.ensures))))

-- ---- it is another text

pub returns-in_default-behind-2-clause-told : goal.returns-in_default-behind-2-clause-told
returns-in_default-behind-2-clause-told c =
    (refl, unasked (match_none c.args.asked c.requires.two (one_is_not_two c.range_field.ensures.cuts c.in_default-behind-2.is)) refl)

pub returns-in_default-behind-3-clause-told : goal.returns-in_default-behind-3-clause-told
returns-in_default-behind-3-clause-told c =
    let r = c.range_field.ensures in
    let v = c.version_field-version-2.ensures in
    (refl, unasked (match_none c.args.asked c.requires.two (three_are_not_two r.cuts c.in-Fields.is v.cuts c.in_default-behind-3.is)) refl)

pub returns-in_err-range-clause-told : goal.returns-in_err-range-clause-told
returns-in_err-range-clause-told c =
    let r = c.range_field.ensures in
    let v = c.version_field-version-2.ensures in
    let both = pair r.cuts c.in-Fields.is v.cuts c.in-Lines-behind.is in
    told_asked _ (Match (r.field, v.field) c.args.asked) _ _ _ (match_asked c.args.asked c.requires.two both)
    (told_fault (IsRangeOf r.field) _ _ _ _ c.from_residual-in_err-range.ensures.1 (c.in_err-range.ensures r.field r.parsed))

pub returns-in_err-version-2-clause-told : goal.returns-in_err-version-2-clause-told
returns-in_err-version-2-clause-told c =
    let r = c.range_field.ensures in
    let v = c.version_field-version-2.ensures in
    let both = pair r.cuts c.in-Fields.is v.cuts c.in-Lines-behind.is in
    told_asked _ (Match (r.field, v.field) c.args.asked) _ _ _ (match_asked c.args.asked c.requires.two both)
    (told_second (IsRangeOf r.field) (IsVersionOf v.field) _ _ _ _ _ (c.in_ok-range.ensures r.field r.parsed)
    c.from_residual-in_err-version-2.ensures.1 (c.in_err-version-2.ensures v.field v.parsed))

pub returns-clause-told : goal.returns-clause-told
returns-clause-told c =
    let r = c.range_field.ensures in
    let v = c.version_field-version-2.ensures in
    let both = pair r.cuts c.in-Fields.is v.cuts c.in-Lines-behind.is in
    told_says _ c.put_truth-2.result _ _ _ _ _ c.told-2.ensures c.put_truth-2.ensures.ok (on_err_weaker c.put_truth-2.result (as_it_was _ _) c.put_truth-2.ensures.err)
    (answered (Match (r.field, v.field) c.args.asked) (match_asked c.args.asked c.requires.two both)
    (read _ (c.in_ok-range.ensures r.field r.parsed) (read _ (c.in_ok-version-2.ensures v.field v.parsed) (ap truth_word c.reply.ensures))))
