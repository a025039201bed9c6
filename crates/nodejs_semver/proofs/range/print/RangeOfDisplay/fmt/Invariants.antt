use Rattle.nodejs_semver.proofs.Common.{take, ◌≡◌}
use denote.Text.{Utf8}
use denote.Shadow.{shadow}
use Rattle.std.specs.Fmt.{HasWrittenStyled, IsFlush}
use Rattle.nodejs_semver.proofs.Values.{bars_after, printed}
use Rattle.nodejs_semver.proofs.range.print.RangeOfDisplay.fmt.Given as goal

abbrev pub invariant-loop-interval : goal.invariant-loop-interval
invariant-loop-interval g l = (text : shadow (Utf8 l.separator)) × (separator : l.separator ≡ bars_after (take l.interval-index l.intervals))
    × (IsFlush l.initial.f → HasWrittenStyled g.W.Write.write_str_gives l.initial.f
    (printed g.V.Versioned.value (take l.interval-index l.intervals)) l.f)
