use Rattle.std.proofs.Common.{◌≡◌, take}
use denote.Text.{Utf8}
use denote.Shadow.{shadow}
use Rattle.nodejs_semver.specs.Printing.Text.{range_text}
use Rattle.nodejs_semver_c.proofs.Printing.{bars_after}
use Rattle.nodejs_semver_c.specs.Internal.Pieces.{Adds}
use Rattle.nodejs_semver_c.proofs.pieces.put_range.Given as goal

abbrev pub invariant-loop-interval : goal.invariant-loop-interval
invariant-loop-interval l =
    (text : shadow (Utf8 l.separator)) × (separator : l.separator ≡ bars_after (take l.interval-index l.intervals))
    × Adds (range_text (take l.interval-index l.intervals)) l.initial.out l.out l.initial.len l.len
