use Rattle.std.proofs.Common.{◌≡◌, ◌≤◌, ◌+◌, ◌++◌, drop, length, vec_capacity, vec_len}
use Rattle.semver_core.specs.Keys.{text_key}
use Rattle.semver_core.proofs.keys.write.write_text.Given as goal

abbrev pub invariant-loop-byte : goal.invariant-loop-byte
invariant-loop-byte l = record {
  items : l.bytes.items ++ text_key (drop l.byte-index l.byte-items) ≡ l.initial.bytes.items ++ text_key l.text;
  len : vec_len l.bytes + length (text_key (drop l.byte-index l.byte-items)) ≡ vec_len l.initial.bytes + length (text_key l.text);
  room : vec_len l.bytes + length (text_key (drop l.byte-index l.byte-items)) ≤ vec_capacity l.bytes;
  capacity : vec_capacity l.initial.bytes ≤ vec_capacity l.bytes;
}
