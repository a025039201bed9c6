use Rattle.std.proofs.Common.{List, ◌≡◌, ◌++◌, length}
use Rattle.semver_core.specs.Keys.{ids_key}
use Rattle.semver_core.specs.Internal.KeyReading.{AreIds}
use Rattle.semver_core.specs.Text.Identifiers.{Id}
use Rattle.semver_core.specs.Values.Views.{ids_view}
use Rattle.semver_core.proofs.keys.read.read_ids.Given as goal

abbrev pub invariant-ids : goal.invariant-ids
invariant-ids l = record {
  left : (u : List Id) → l.others ≡ ids_key u → ids_key (ids_view l.ids.items ++ u) ≡ l.key;
  keyed : AreIds l.others;
}

abbrev pub decreases-ids : goal.decreases-ids
decreases-ids l = length l.others
