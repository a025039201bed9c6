use Rattle.std.proofs.Common.{◌≡◌, map, string_bytes, take}
use Rattle.npm_semver.specs.Internal.Asked.{texts}
use Rattle.npm_semver.proofs.subcommands.keys.texts_of.Given as goal

abbrev pub invariant-loop-word : goal.invariant-loop-word
invariant-loop-word l = texts l.texts.items ≡ map string_bytes (take l.word-index l.words)
