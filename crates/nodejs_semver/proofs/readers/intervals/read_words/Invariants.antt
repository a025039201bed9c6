use Rattle.nodejs_semver.proofs.Common.{◌≡◌, ◌++◌, length, precedence, MAX_SAFE_INTEGER, space_len, part_bounds, joined_from}
use Rattle.nodejs_semver.proofs.readers.intervals.read_words.Given as goal

abbrev pub invariant-words : goal.invariant-words
invariant-words l = record {
  whole : l.found.items ++ joined_from precedence l.running (part_bounds MAX_SAFE_INTEGER l.rest)
      ≡ l.fn.found.items ++ joined_from precedence l.fn.first (part_bounds MAX_SAFE_INTEGER l.text);
  starts : space_len l.rest ≡ 0;
}

abbrev pub decreases-words : goal.decreases-words
decreases-words l = length l.rest
