use Rattle.std.proofs.Common.{◌≡◌, ◌++◌, drop}
use Rattle.key_spans.specs.Internal.Kinds.{all_of_kind}
use Rattle.nodejs_semver.specs.Internal.Shorthands.{spans_of}
use Rattle.key_spans.proofs.build.parts_of.Given as goal

abbrev pub invariant-loop-interval : goal.invariant-loop-interval
invariant-loop-interval g l = l.parts.items ++ all_of_kind l.kind (spans_of g.V.Versioned.value (drop l.interval-index l.intervals))
    ≡ all_of_kind l.kind (spans_of g.V.Versioned.value l.intervals)
