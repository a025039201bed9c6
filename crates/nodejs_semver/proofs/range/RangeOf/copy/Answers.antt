use Rattle.nodejs_semver.proofs.Common.{ap, on_err, spans_of, ◌∙◌}
use Rattle.nodejs_semver.proofs.Values.{taking-values}
use Rattle.nodejs_semver.proofs.range.RangeOf.copy.Goals as goal

pub returns-in_err-intervals-clause-memory : goal.returns-in_err-intervals-clause-memory
returns-in_err-intervals-clause-memory g c = on_err c.from_residual.result (taking-values g.V.Point.takes g.V.Versioned.value g.met.V.VersionPoint.copied _ _
    c.items.ensures.value c.in_err-intervals.ensures.memory)

pub returns : goal.returns
returns g c = record { whole = ap (spans_of g.V.Versioned.value) c.in_ok-intervals.ensures.whole ∙ c.items.ensures.value; memory = tt }
