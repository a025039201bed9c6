use Rattle.std.proofs.Common.{sym}
use Rattle.npm_semver.proofs.Listed.{all_say}
use Rattle.npm_semver.proofs.Texts.{accepted_added, no_version_added, rejected_added}
use Rattle.npm_semver.proofs.listing.Texts.push_version.Goals as goal

pub returns-in_default : goal.returns-in_default
returns-in_default c = λ ranges before are. rw (c.in_ok-push.ensures.items, c.no_version.ensures)
    (no_version_added _ _ _ _ _ _ _ _ _ are c.in_default.ensures.none)

pub returns-then-not-all_accept : goal.returns-then-not-all_accept
returns-then-not-all_accept c = λ ranges before are. rw (c.in_ok-push-2.ensures.items, c.not_accepted.ensures)
    (rejected_added _ _ _ _ _ _ _ _ _ _ _ _ (sym (rw c.deref.ensures.value at c.if-not-all_accept.ensures)) are c.in-Some.ensures.some
    (all_say _ _ _ _ are.ranges_are) c.given-given.ensures)

pub returns : goal.returns
returns c = λ ranges before are. rw c.in_ok-push-3.ensures.items
    (accepted_added _ _ _ _ _ _ _ _ _ _ _ _ (sym (rw c.deref.ensures.value at c.if-not-all_accept.ensures)) are c.in-Some.ensures.some
    (all_say _ _ _ _ are.ranges_are) c.given-given.ensures)
