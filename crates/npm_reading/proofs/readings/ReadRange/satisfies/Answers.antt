use Rattle.{npm_reading.proofs.Grammar.RangeReads.of_accepted, std.proofs.Common.◌≡◌}
use Rattle.npm_reading.proofs.readings.ReadRange.satisfies.Goals as goal

pub returns : goal.returns
returns g c = rw (← c.self.view_is) (of_accepted {Holds = λ a. c.satisfies_with_prerelease.result ≡ a (g.W.Versioned.value c.args.version.now)}
    _ c.self.inside.range c.self.invariant c.satisfies_with_prerelease.ensures.gate)
