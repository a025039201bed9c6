use Rattle.npm_reading.proofs.Grammar.Intervals.{intervals_accept, range_once}
use Rattle.npm_reading.proofs.laws.ranges.npm_intervals.Goals as goal

pub returns : goal.returns
returns c = record { accepted = intervals_accept; once = range_once }
