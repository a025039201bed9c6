use Rattle.std.proofs.Common.{◌≡◌, ◌++◌, drop, map, take}
use Rattle.nodejs_semver_c.proofs.sort.tell_places.Given as goal

-- the places so far are told, and what stands behind them is as it was
abbrev pub invariant-places : goal.invariant-places
invariant-places l = l.order ≡ map (λ p. p.1) (take l.at l.all) ++ drop l.at l.initial.order
