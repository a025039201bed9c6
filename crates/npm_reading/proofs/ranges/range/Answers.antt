use Rattle.{nodejs_semver.proofs.Values.spans_same, npm_reading.proofs.Grammar.Intervals.read_accepts, std.proofs.Common.◌∙◌}
use Rattle.npm_reading.proofs.ranges.range.Goals as goal

pub returns-clause-accepted : goal.returns-clause-accepted
returns-clause-accepted c =
    let found = c.fill.new.found.items in
    rw (c.of_some.ensures ∙ spans_same found)
    (read_accepts (record { reading = c.args.reading; text = c.args.text.now }) found c.in_ok-fill.ensures.ok)
