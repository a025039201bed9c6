use Rattle.std.proofs.Common.{◌∙◌}
use Rattle.npm_tests.proofs.tests.npm_ranges.admits.Goals as goal

pub returns-clause-ok : goal.returns-clause-ok
returns-clause-ok c =
    let read = c.in_ok-range.ensures.accepted in
    (read.alternatives, _, read.has, c.in_ok-version.ensures.ok, c.satisfies_with_prerelease.ensures.gate ∙ read.holds _)
