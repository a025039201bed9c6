use Rattle.std.proofs.Common.{◌≤◌, ◌<◌, length, arith}
use Rattle.std.proofs.lemmas.List.{take_all}
use Rattle.std.proofs.lemmas.List.Elements.{All-more}
use Rattle.uses.specs.Resolver.{of_release, of_root}
use Rattle.uses.proofs.Plans.{IsServed, MeetsAll-from_served, pick_at, release_at-item}
use Rattle.uses.proofs.resolver.first_unmet.Goals as goal

pub returns-in-Some-clause-some : goal.returns-in-Some-clause-some
returns-in-Some-clause-some c = (of_root _ c.in-Some.ensures.some.0, c.in-Some.ensures.some.1)

pub loop-pick-preserved-in_default-pick : goal.loop-pick-preserved-in_default-pick
loop-pick-preserved-in_default-pick c =
    let xs = c.args.picks.now in
    All-more (IsServed xs) xs c.loop-pick.pick-index c.pick-item.result (omega arith) c.loop-pick.invariant
    (let e = c.pick-item.is in rw (← c.pick-item.is, c.in_default-pick.is) tt)

pub returns-in-Some-unmet_of-clause-some : goal.returns-in-Some-unmet_of-clause-some
returns-in-Some-unmet_of-clause-some c =
    let item = c.pick-item.result in
    let within : c.loop-pick.pick-index < length c.args.picks.now = omega arith in
    let at = release_at-item c.args.picks.now c.loop-pick.pick-index item c.in-Some-pick.pick within c.pick-item.is
    c.in-Some-pick.is in
    let asked = rw c.deref.ensures.value at c.in-Some-unmet_of.ensures.some.0 in
    let taken = pick_at c.args.picks.now c.loop-pick.pick-index item c.in-Some-pick.pick within c.pick-item.is c.in-Some-pick.is in
    let (place, needed) = c.requires c.loop-pick.pick-index c.in-Some-pick.pick taken in (
      of_release _ c.in-Some-pick.pick.requirement.now c.in-Some-pick.pick.release.now needed (rw place at) asked,
      c.in-Some-unmet_of.ensures.some.1,
    )

pub loop-pick-preserved : goal.loop-pick-preserved
loop-pick-preserved c =
    let xs = c.args.picks.now in
    All-more (IsServed xs) xs c.loop-pick.pick-index c.pick-item.result (omega arith) c.loop-pick.invariant
    (rw (← c.pick-item.is, c.in-Some-pick.is) (rw c.deref.ensures.value at c.in_default-unmet_of.ensures.none))

pub returns-clause-none : goal.returns-clause-none
returns-clause-none c =
    let all : length c.args.picks.now ≤ c.loop-pick.pick-index = omega arith in
    MeetsAll-from_served c.args.root.now c.args.picks.now c.in_default.ensures.none
    (rw (take_all c.loop-pick.pick-index c.args.picks.now all) at c.loop-pick.invariant)
