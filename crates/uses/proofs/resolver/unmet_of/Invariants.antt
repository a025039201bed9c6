use Rattle.std.proofs.Common.{All, take}
use Rattle.uses.specs.Resolver.{IsMet, release_at}
use Rattle.uses.proofs.resolver.unmet_of.Given as goal

abbrev pub invariant-loop-requirement : goal.invariant-loop-requirement
invariant-loop-requirement l = All (IsMet (release_at l.picks)) (take l.requirement-index l.asked)
