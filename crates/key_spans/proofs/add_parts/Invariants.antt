use Rattle.std.proofs.Common.{◌≡◌, ◌++◌}
use Rattle.key_spans.specs.Internal.Pieces.{all_flagged, pieces}
use Rattle.key_spans.proofs.add_parts.Given as goal

abbrev pub invariant-loop-part : goal.invariant-loop-part
invariant-loop-part l = pieces l.spans.items ≡ pieces l.initial.spans.items ++ all_flagged l.releases_only l.yielded
