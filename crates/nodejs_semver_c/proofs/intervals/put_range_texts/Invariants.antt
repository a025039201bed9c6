use Rattle.std.proofs.Common.{take}
use Rattle.nodejs_semver_c.specs.Internal.Pieces.{Adds}
use Rattle.nodejs_semver_c.specs.KeptRanges.{range_texts}
use Rattle.nodejs_semver_c.proofs.intervals.put_range_texts.Given as goal

abbrev pub invariant-loop-interval : goal.invariant-loop-interval
invariant-loop-interval l = Adds (range_texts (take l.interval-index l.intervals)) l.initial.out l.out l.initial.len l.len
