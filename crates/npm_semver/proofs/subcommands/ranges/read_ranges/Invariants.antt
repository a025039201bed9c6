use Rattle.std.proofs.Common.{map, string_bytes, take}
use Rattle.npm_semver.specs.Subcommands.{AreRanges}
use Rattle.npm_semver.proofs.subcommands.ranges.read_ranges.Given as goal

abbrev pub invariant-loop-word : goal.invariant-loop-word
invariant-loop-word l = AreRanges (map string_bytes (take l.word-index l.words)) l.ranges.items
