use Rattle.nodejs_semver.proofs.Common.{IsLeastSoFar, spans_of, take, value_of}
use Rattle.nodejs_semver.proofs.range.RangeOf.least_start.Given as goal

abbrev pub invariant-loop-interval : goal.invariant-loop-interval
invariant-loop-interval g l =
    let value = g.V.Versioned.value in
    IsLeastSoFar (spans_of value (take l.interval-index l.intervals)) (value_of value l.least)
