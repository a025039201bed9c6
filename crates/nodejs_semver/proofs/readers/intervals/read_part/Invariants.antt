use Rattle.nodejs_semver.proofs.Common.{◌≡◌, None, length, precedence, MAX_SAFE_INTEGER, space_len, part_bounds, part_intervals, joined}
use Rattle.nodejs_semver.proofs.readers.intervals.read_part.Given as goal

abbrev pub invariant-words : goal.invariant-words
invariant-words l = record {
  same : l.found.items ≡ l.fn.found.items;
  whole : joined precedence None (part_bounds MAX_SAFE_INTEGER l.rest) ≡ part_intervals MAX_SAFE_INTEGER l.part;
  starts : space_len l.rest ≡ 0;
}

abbrev pub decreases-words : goal.decreases-words
decreases-words l = length l.rest
