use Rattle.nodejs_semver.proofs.Common.{VersionValue, all_accept, take, ◌≡◌}
use Rattle.nodejs_semver.specs.Internal.Index.{all_pass}
use Rattle.nodejs_semver.proofs.range.index.Indexes.of.Given as goal

abbrev pub invariant-loop-range : goal.invariant-loop-range
invariant-loop-range g l = (v : VersionValue) → all_pass l.kept.items v ≡ all_accept (take l.range-index l.ranges) v
