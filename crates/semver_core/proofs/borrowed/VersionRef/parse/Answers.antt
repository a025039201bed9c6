use Rattle.semver_core.proofs.Common.{NoValue, listed, Reads, MAX_SAFE_INTEGER, arith, rules}
use Rattle.semver_core.proofs.Text.{Ends.{not_parsed, short_parsed}, Fronts.release_read}
use Rattle.std.proofs.lemmas.Grind.{common_steps}
use Rattle.semver_core.proofs.borrowed.VersionRef.parse.Goals as goal

pub returns-then-end-text-clause-ok : goal.returns-then-end-text-clause-ok
unfolding listed
returns-then-end-text-clause-ok c =
    short_parsed _ c.args.text.now _ c.if-text-gt-MAX_LENGTH.false
    (release_read _ c.args.text.now c.in-Some.major c.in-Some.minor c.in-Some.patch c.in-Some.end _ c.in-Some.ensures.some
    (omega (arith, c.if-end-text.true)) c.from_texts.ensures)

pub returns-in_default-clause-refused : goal.returns-in_default-clause-refused
returns-in_default-clause-refused c =
    let unread : NoValue (Reads MAX_SAFE_INTEGER c.args.text.now) = search rules in
    not_parsed MAX_SAFE_INTEGER c.args.text.now unread

pub returns-clause-ok : goal.returns-clause-ok
returns-clause-ok c = grind (arith, common_steps)
