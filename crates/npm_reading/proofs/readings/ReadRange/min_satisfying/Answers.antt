use Rattle.npm_reading.proofs.Grammar.RangeReads.{of_accepted}
use Rattle.npm_reading.proofs.readings.ReadRange.min_satisfying.Goals as goal

pub returns-clause-best : goal.returns-clause-best
returns-clause-best g c = rw (← c.self.view_is) (of_accepted _ c.self.inside.range c.self.invariant
    (rw c.items.ensures.value at c.least.ensures.best))

pub returns-clause-element : goal.returns-clause-element
returns-clause-element g c = rw (← c.self.view_is) (of_accepted _ c.self.inside.range c.self.invariant
    (rw c.items.ensures.value at c.least.ensures.element))
