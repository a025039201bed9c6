use Rattle.nodejs_semver.proofs.Common.{length, ◌≡◌}
use Rattle.nodejs_semver.specs.Internal.Index.{AreEnds}
use Rattle.nodejs_semver.proofs.range.index.ends_of.Given as goal

abbrev pub invariant-loop-entry : goal.invariant-loop-entry
invariant-loop-entry g l = (length l.ends.items ≡ l.entry-index) × AreEnds g.V.Versioned.value l.entries l.ends.items
