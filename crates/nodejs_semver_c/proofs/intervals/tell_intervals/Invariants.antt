use Rattle.std.proofs.Common.{◌≡◌, ◌<◌, ◌^◌, ◌++◌, drop, map, take}
use Rattle.nodejs_semver_c.specs.Internal.Pieces.{Adds}
use Rattle.nodejs_semver_c.specs.KeptRanges.{range_texts, span_parts}
use Rattle.nodejs_semver_c.proofs.intervals.tell_intervals.Given as goal

-- the intervals so far are told, and their texts put
abbrev pub invariant-intervals : goal.invariant-intervals
invariant-intervals l = (l.told ≡ map span_parts (take l.at l.intervals) ++ drop l.at l.initial.told)
    × Adds (range_texts (take l.at l.intervals)) l.initial.out l.out 0 l.len × (l.len < 2 ^ 64)
