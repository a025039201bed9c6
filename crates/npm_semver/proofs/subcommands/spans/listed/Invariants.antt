use Rattle.std.proofs.Common.{◌≡◌, string_bytes, take}
use Rattle.std.specs.List.{flat_map}
use Rattle.npm_semver.specs.Responses.{line}
use Rattle.npm_semver.specs.Spans.{span_text}
use Rattle.npm_semver.proofs.subcommands.spans.listed.Given as goal

abbrev pub invariant-loop-span : goal.invariant-loop-span
invariant-loop-span l = string_bytes l.output ≡ flat_map (λ s. line (span_text s)) (take l.span-index l.spans)
