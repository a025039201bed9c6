use Rattle.std.proofs.Common.{◌≤◌, length, sym, arith}
use Rattle.std.proofs.lemmas.List.{take_all}
use Rattle.std.proofs.lemmas.List.Elements.{All-more}
use Rattle.uses.specs.Resolver.{IsMet, release_at}
use Rattle.uses.proofs.Plans.{IsMet-from_pick}
use Rattle.uses.proofs.resolver.unmet_of.Goals as goal

pub loop-requirement-preserved : goal.loop-requirement-preserved
loop-requirement-preserved c =
    let met = IsMet-from_pick c.args.picks.now c.requirement-item.result c.in-Some.pick c.in-Some.ensures (sym
    c.if-satisfies.ensures.gate) in
    All-more (IsMet (release_at c.args.picks.now)) c.args.asked.now c.loop-requirement.requirement-index
    c.requirement-item.result (omega arith) c.loop-requirement.invariant (rw (← c.requirement-item.is) met)

pub returns-clause-none : goal.returns-clause-none
returns-clause-none c =
    let all : length c.args.asked.now ≤ c.loop-requirement.requirement-index = omega arith in
    rw (take_all c.loop-requirement.requirement-index c.args.asked.now all) at c.loop-requirement.invariant
