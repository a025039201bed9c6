use Rattle.std.proofs.Common.{◌≡◌, drop}
use Rattle.npm_semver.specs.Spans.{goes_on, is_column}
use Rattle.npm_semver.proofs.subcommands.spans.is_column.Given as goal

abbrev pub invariant-loop-byte : goal.invariant-loop-byte
invariant-loop-byte l = is_column l.text ≡ goes_on l.before (drop l.byte-index l.text)
