use Rattle.std.proofs.Common.{◌≡◌, ◌++◌, codes, string_bytes, take}
use Rattle.std.specs.List.{flat_map}
use Rattle.npm_semver.specs.Spans.{lies_in}
use Rattle.npm_semver.proofs.subcommands.spans.Dialect.write_others.Given as goal

abbrev pub invariant-loop-span : goal.invariant-loop-span
invariant-loop-span l = string_bytes l.output ≡ string_bytes l.initial.output
    ++ flat_map (λ s. codes " OR " ++ lies_in l.self l.column s) (take l.span-index l.spans)
