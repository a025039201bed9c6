use Rattle.std.proofs.Common.{refl, sym, ◌∙◌}
use Rattle.npm_semver.specs.Internal.Asked.{asked_of}
use Rattle.npm_semver.specs.Responses.IsRefused.{no_number, no_version, unknown, unread, unshown}
use Rattle.npm_semver.specs.Responses.Names.{no_number as no_number_named, none, option}
use Rattle.npm_semver.proofs.Refused.{first_unread, no_version_is, no_version_not, not_refused, range_named, strict_none, strict_some, unread_is, unread_not, unshown_is, unshown_not, version_named}
use Rattle.npm_semver.proofs.refusal.refusal_of.Goals as goal

pub returns-then-has_no_number-clause-some : goal.returns-then-has_no_number-clause-some
returns-then-has_no_number-clause-some c = λ read. no_number (c.has_no_number.ensures.yes c.if-has_no_number.true)

pub returns-then-has_no_number-clause-named : goal.returns-then-has_no_number-clause-named
returns-then-has_no_number-clause-named c = λ read. no_number_named

pub returns-in-Some-clause-some : goal.returns-in-Some-clause-some
returns-in-Some-clause-some c = λ read. unknown (c.has_no_number.ensures.no c.if-has_no_number.false) (strict_some _ _ _ c.in-Some.ensures).0

pub returns-in-Some-clause-named : goal.returns-in-Some-clause-named
returns-in-Some-clause-named c = λ read. option _ (strict_some _ _ _ c.in-Some.ensures).1

pub returns-in-Some-unread-clause-some : goal.returns-in-Some-unread-clause-some
returns-in-Some-unread-clause-some c = λ read.
    rw c.no_range.ensures.kind
    (unread (c.has_no_number.ensures.no c.if-has_no_number.false) (strict_none _ _ c.in_default.ensures) (unread_is (asked_of c.args.question.now) _ read.no_ranges_are (sym c.in-Some-unread.ensures.is)))

pub returns-in-Some-unread-clause-named : goal.returns-in-Some-unread-clause-named
returns-in-Some-unread-clause-named c = λ read.
    rw (c.no_range.ensures.kind, c.no_range.ensures.name)
    (range_named (asked_of c.args.question.now) _ (first_unread _ _ _ _ read.no_ranges_are c.in-Some-unread.ensures.first))

pub returns-in-Some-no_version-clause-some : goal.returns-in-Some-no_version-clause-some
returns-in-Some-no_version-clause-some c = λ read.
    no_version (c.has_no_number.ensures.no c.if-has_no_number.false) (strict_none _ _ c.in_default.ensures)
    (unread_not (asked_of c.args.question.now) _ read.no_ranges_are (sym c.in_default-unread.ensures.is))
    (no_version_is (asked_of c.args.question.now) _ read.left (sym c.in-Some-no_version.ensures.is))

pub returns-in-Some-no_version-clause-named : goal.returns-in-Some-no_version-clause-named
returns-in-Some-no_version-clause-named c = λ read.
    rw c.marked.ensures (version_named (asked_of c.args.question.now) _ _ read.left c.in-Some-no_version.ensures.first)

pub returns-then-has_unshown-clause-some : goal.returns-then-has_unshown-clause-some
returns-then-has_unshown-clause-some c = λ read.
    rw c.unshown.ensures.kind
    (unshown (c.has_no_number.ensures.no c.if-has_no_number.false) (strict_none _ _ c.in_default.ensures)
    (unread_not (asked_of c.args.question.now) _ read.no_ranges_are (sym c.in_default-unread.ensures.is))
    (no_version_not (asked_of c.args.question.now) _ read.left (sym c.in_default-no_version.ensures.is))
    (unshown_is (asked_of c.args.question.now) _ refl (sym c.has_unshown.ensures ∙ c.if-has_unshown.true)))

pub returns-then-has_unshown-clause-named : goal.returns-then-has_unshown-clause-named
returns-then-has_unshown-clause-named c = λ read. rw (c.unshown.ensures.kind, c.unshown.ensures.name) none

pub returns-clause-none : goal.returns-clause-none
returns-clause-none c = λ read. not_refused (asked_of c.args.question.now) (c.has_no_number.ensures.no c.if-has_no_number.false) (strict_none _ _ c.in_default.ensures)
    (unread_not (asked_of c.args.question.now) _ read.no_ranges_are (sym c.in_default-unread.ensures.is))
    (no_version_not (asked_of c.args.question.now) _ read.left (sym c.in_default-no_version.ensures.is))
    (unshown_not (asked_of c.args.question.now) _ refl (sym c.has_unshown.ensures ∙ c.if-has_unshown.false))
