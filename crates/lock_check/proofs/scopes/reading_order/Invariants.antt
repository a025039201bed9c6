use Rattle.lock_check.proofs.Turns.{AreTurns}
use Rattle.lock_check.proofs.scopes.reading_order.Given as goal

abbrev pub invariant-loop-number : goal.invariant-loop-number
invariant-loop-number l = AreTurns l.edges l.number l.order.items
