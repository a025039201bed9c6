use Rattle.std.proofs.Common.{◌≡◌, ◌++◌, ◌∷◌, [], codes, string_bytes, take}
use Rattle.std.specs.List.{flat_map}
use Rattle.hex.specs.Hex.{encode_lower}
use Rattle.npm_semver.proofs.subcommands.spans.write_escaped.Given as goal

abbrev pub invariant-loop-byte : goal.invariant-loop-byte
invariant-loop-byte l = string_bytes l.output ≡ string_bytes l.initial.output
    ++ flat_map (λ b. codes "\\x" ++ encode_lower (b ∷ [])) (take l.byte-index l.bytes)
