use Rattle.nodejs_semver.proofs.Common.{◌≡◌, ◌++◌, precedence, refl, sym, ◌∙◌, append-nil, arith}
use Rattle.nodejs_semver.proofs.Common.{MAX_SAFE_INTEGER, part_bounds, part_intervals, joined_from}
use Rattle.nodejs_semver.proofs.Dividing.RunsDivide.{longer_joined, part-begins, part-last, part-step, read-shorter, read-starts, words-last}
use Rattle.nodejs_semver.proofs.readers.intervals.read_part.Goals as goal

pub words-init : goal.words-init
words-init c = record { same = refl; whole = part-begins MAX_SAFE_INTEGER c.args.part.now; starts = c.requires }

pub read_words-requires : goal.read_words-requires
read_words-requires c = read-starts MAX_SAFE_INTEGER _ _ _ c.next_interval-next.ensures

-- what the running interval and those behind it add is the intervals of the part
whole-at : (c : goal.After-read_words) → c.words.found.items
    ++ joined_from precedence c.in-Some.first (part_bounds MAX_SAFE_INTEGER c.next_interval-next.result.1.now)
    ≡ c.args.found.now.items ++ part_intervals MAX_SAFE_INTEGER c.args.part.now
whole-at c =
    let step = part-step MAX_SAFE_INTEGER _ _ _ (grind arith) c.words.invariant.starts c.next_interval-next.ensures in
    cc (c.words.invariant.same, c.words.invariant.whole, rw c.in-Some.is at step)

-- the same where no word follows
last-at : (c : goal.After-add) → c.words.found.items
    ++ joined_from precedence c.in-Some.first (part_bounds MAX_SAFE_INTEGER c.next_interval-next.result.1.now)
    ≡ c.args.found.now.items ++ part_intervals MAX_SAFE_INTEGER c.args.part.now
last-at c =
    let step = part-step MAX_SAFE_INTEGER _ _ _ (grind arith) c.words.invariant.starts c.next_interval-next.ensures in
    cc (c.words.invariant.same, c.words.invariant.whole, rw c.in-Some.is at step)

pub returns-then-is_empty-clause-added : goal.returns-then-is_empty-clause-added
returns-then-is_empty-clause-added c = grind (arith, words-last, last-at c)

pub returns-then-is_empty-clause-memory : goal.returns-then-is_empty-clause-memory
returns-then-is_empty-clause-memory c = grind (arith, longer_joined, last-at c)

pub returns-in-Some-clause-added : goal.returns-in-Some-clause-added
returns-in-Some-clause-added c = grind (arith, whole-at)

pub returns-in-Some-clause-memory : goal.returns-in-Some-clause-memory
returns-in-Some-clause-memory c = grind (arith, whole-at)

pub returns-clause-added : goal.returns-clause-added
returns-clause-added c = grind (arith, part-last, append-nil)

pub words-smaller : goal.words-smaller
words-smaller c = read-shorter MAX_SAFE_INTEGER _ _ _ (grind arith) c.words.invariant.starts c.next_interval-next.ensures

pub words-preserved : goal.words-preserved
words-preserved c =
    let step = part-step MAX_SAFE_INTEGER _ _ _ (grind arith) c.words.invariant.starts c.next_interval-next.ensures in
    record {
      same = c.words.invariant.same;
      whole = sym (rw c.in_default.is at step) ∙ c.words.invariant.whole;
      starts = read-starts MAX_SAFE_INTEGER _ _ _ c.next_interval-next.ensures;
    }
