use Rattle.std.proofs.Common.{◌++◌, ◌∷◌, ◌∙◌, [], append_assoc, arith, ap, length, refl, sym}
use Rattle.std.proofs.lemmas.Result.{err_from_is_err_and}
use Rattle.semver_answers.proofs.Behind.{next_line, onward, single}
use Rattle.semver_answers.proofs.Replies.{finds_none, refused_one}
use Rattle.semver_answers.proofs.best.best_of.Goals as goal

pub fields-init : goal.fields-init
fields-init c = record { utf8 = c.utf8.texts; feed = c.requires; next = refl; found = ([], refl, finds_none _ _) }

pub returns-in_err-keep_better-clause-fault : goal.returns-in_err-keep_better-clause-fault
returns-in_err-keep_better-clause-fault c =
    let (done, split, found) = c.fields.invariant.found in
    let v = c.version_field-version.ensures in
    let p = err_from_is_err_and c.from_residual.result c.from_residual.ensures.1 in
    rw (p.1, p.2, split, v.cuts.first) (refused_one done v.field _ _ (c.in_err-keep_better.ensures.fault v.field v.parsed))

pub returns-in-Lines-clause-best : goal.returns-in-Lines-clause-best
returns-in-Lines-clause-best c =
    let (done, split, found) = c.fields.invariant.found in
    let v = c.version_field-version.ensures in
    rw (split, single v.cuts c.in-Lines.is) (c.in_ok-keep_better.ensures.best done v.field v.parsed found)

pub returns-in-Lines-clause-next : goal.returns-in-Lines-clause-next
returns-in-Lines-clause-next c =
    let n = next_line c.version_field-version.ensures.cuts c.in-Lines.is in
    (n.0 ∙ c.fields.invariant.next, n.1)

pub fields-preserved : goal.fields-preserved
fields-preserved c =
    let (done, split, found) = c.fields.invariant.found in
    let v = c.version_field-version.ensures in
    let goes_on = rw c.in-Fields.is at v.cuts.goes_on in
    let e = onward v.cuts c.in-Fields.is in
    record {
      utf8 = goes_on.1;
      feed = goes_on.0;
      next = sym (rw c.in-Fields.is at v.cuts.next) ∙ c.fields.invariant.next;
      found = (
        done ++ v.field ∷ [],
        rw (split, e, append_assoc) refl,
        c.in_ok-keep_better.ensures.best done v.field v.parsed found,
      );
    }

pub fields-smaller : goal.fields-smaller
fields-smaller c = omega (arith, ap length (onward c.version_field-version.ensures.cuts c.in-Fields.is))
