use Rattle.nodejs_semver.proofs.Common.{spans_of, take, ◌≡◌}
use Rattle.nodejs_semver.specs.Internal.Index.{all_entries, pre_entries}
use Rattle.nodejs_semver.proofs.range.index.Index.of.Given as goal

abbrev pub invariant-loop-interval : goal.invariant-loop-interval
invariant-loop-interval g l =
    (l.releases.items ≡ all_entries (spans_of g.V.Versioned.value (take l.interval-index l.intervals)))
    × (l.pre_releases.items ≡ pre_entries (spans_of g.V.Versioned.value (take l.interval-index l.intervals)))
