use Rattle.std.proofs.Common.{◌≡◌, ◌≤◌, ◌+◌, ◌*◌, drop, length}
use Rattle.semver_core.specs.Keys.{text_key}
use Rattle.semver_core.proofs.keys.length.id_len.Given as goal

abbrev pub invariant-loop-byte : goal.invariant-loop-byte
invariant-loop-byte l = record {
  left : l.len + length (text_key (drop l.byte-index l.byte-items)) ≡ length (text_key l.byte-items) + 1;
  small : l.len ≤ 2 * l.byte-index + 1;
}
