use Rattle.std.proofs.Common.{◌≡◌, ◌≤◌, length, take, vec_capacity, vec_len}
use Rattle.std.specs.List.{filter}
use Rattle.semver_core.proofs.Encoding.Texts.{is_low}
use Rattle.semver_core.proofs.keys.read.read_text.Given as goal

abbrev pub invariant-loop-byte : goal.invariant-loop-byte
invariant-loop-byte l = record {
  kept : l.text.items ≡ filter is_low (take l.byte-index l.key);
  within : vec_len l.text ≤ l.byte-index;
  room : length l.key ≤ vec_capacity l.text;
}
