use Rattle.std.proofs.Common.{length}
use Rattle.semver_core.specs.Internal.KeyReading.{AreIds}
use Rattle.semver_core.proofs.keys.check.are_ids.Given as goal

abbrev pub invariant-ids : goal.invariant-ids
invariant-ids l = record {
  sound : AreIds l.others → AreIds l.bytes;
  complete : AreIds l.bytes → AreIds l.others;
}

abbrev pub decreases-ids : goal.decreases-ids
decreases-ids l = length l.others
