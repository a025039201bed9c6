use Rattle.std.proofs.Common.{take}
use Rattle.std.specs.List.{AllZip}
use Rattle.key_spans.specs.Ranges.{IsIntervalOf}
use Rattle.key_spans.proofs.ranges.from_spans.Given as goal

abbrev pub invariant-loop-span : goal.invariant-loop-span
invariant-loop-span l = AllZip IsIntervalOf (take l.span-index l.spans) l.intervals.items
