use Rattle.std.proofs.Common.{◌≡◌, ◌++◌, drop, map, take}
use Rattle.nodejs_semver_c.specs.KeptSpans.{span_parts}
use Rattle.nodejs_semver_c.proofs.kept_spans.tell_parts.Given as goal

abbrev pub invariant-spans : goal.invariant-spans
invariant-spans l = l.told ≡ map span_parts (take l.at l.spans) ++ drop l.at l.initial.told
