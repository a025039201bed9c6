use Rattle.std.proofs.Common.{ℕ, List, ◌≤◌, length}
use Rattle.semver_core.specs.Internal.KeyReading.{IsLow, IsTextFront}
use Rattle.semver_core.proofs.keys.check.behind_text.Given as goal

abbrev pub invariant-text : goal.invariant-text
invariant-text l = record {
  sound : (rest : List ℕ) → IsTextFront l.others rest → IsTextFront l.bytes rest;
  complete : (rest : List ℕ) → IsLow rest → IsTextFront l.bytes rest → IsTextFront l.others rest;
  shorter : length l.others ≤ length l.bytes;
}

abbrev pub decreases-text : goal.decreases-text
decreases-text l = length l.others
