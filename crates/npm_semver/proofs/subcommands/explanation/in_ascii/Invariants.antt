use Rattle.std.proofs.Common.{string_bytes}
use Rattle.std.specs.Str.{IsAscii}
use Rattle.npm_semver.proofs.subcommands.explanation.in_ascii.Given as goal

abbrev pub invariant-loop-letter : goal.invariant-loop-letter
invariant-loop-letter l = IsAscii (string_bytes l.text)
