use Rattle.std.proofs.Common.{All, take}
use Rattle.uses.proofs.Plans.{IsServed}
use Rattle.uses.proofs.resolver.first_unmet.Given as goal

abbrev pub invariant-loop-pick : goal.invariant-loop-pick
invariant-loop-pick l = All (IsServed l.picks) (take l.pick-index l.picks)
