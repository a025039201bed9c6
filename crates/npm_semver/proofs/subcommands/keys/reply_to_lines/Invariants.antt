use Rattle.std.proofs.Common.{string_bytes, take}
use Rattle.npm_semver.specs.Internal.Asked.{texts}
use Rattle.npm_semver.specs.Internal.Said.{has_row}
use Rattle.npm_semver.specs.Subcommands.{AreLines}
use Rattle.npm_semver.proofs.subcommands.keys.reply_to_lines.Given as goal

abbrev pub invariant-loop-text : goal.invariant-loop-text
invariant-loop-text l = AreLines (has_row l.row) (texts (take l.text-index l.lines)) (string_bytes l.output)
