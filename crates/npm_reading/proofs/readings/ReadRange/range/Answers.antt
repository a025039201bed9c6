use Rattle.npm_reading.proofs.Grammar.Intervals.{read_accepts}
use Rattle.npm_reading.proofs.readings.ReadRange.range.Goals as goal

pub returns-clause-accepted : goal.returns-clause-accepted
returns-clause-accepted c = rw (← c.self.view_is) (read_accepts _ c.self.inside.range c.self.invariant)
