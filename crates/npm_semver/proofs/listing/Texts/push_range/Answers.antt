use Rattle.npm_semver.proofs.Texts.{no_range_added, range_added}
use Rattle.npm_semver.proofs.listing.Texts.push_range.Goals as goal

pub returns-in_default : goal.returns-in_default
returns-in_default c = λ before are. rw (c.in_ok-push-2.ensures.items, c.in_ok-push.ensures.items)
    (no_range_added _ _ _ _ _ _ _ _ are (rw c.in_default.is at c.in_ok-range.ensures.none))

pub returns : goal.returns
returns c = λ before are. rw c.in_ok-push-3.ensures.items
    (range_added _ _ _ _ _ _ _ _ _ are (rw c.in-Some.is at c.in_ok-range.ensures.some))
