use Rattle.nodejs_semver.proofs.Common.{MAX_SAFE_INTEGER, arith}
use Rattle.nodejs_semver.proofs.Dividing.RunsDivide.{bounds-step, longer_joined, read-shorter, read-starts, words-last}
use Rattle.nodejs_semver.proofs.readers.intervals.read_words.Goals as goal

pub words-smaller-in-Some : goal.words-smaller-in-Some
words-smaller-in-Some c = read-shorter _ _ _ _ (grind arith) c.words.invariant.starts c.next_interval-next.ensures

pub words-smaller : goal.words-smaller
words-smaller c = read-shorter _ _ _ _ (grind arith) c.words.invariant.starts c.next_interval-next.ensures

pub words-preserved-in-Some : goal.words-preserved-in-Some
words-preserved-in-Some c =
    let bounds = bounds-step MAX_SAFE_INTEGER _ _ _ (grind arith) c.words.invariant.starts c.next_interval-next.ensures in
    record {
      whole = cc (c.in_ok-running.ensures.joined _, rw c.in-Some.is at bounds, c.words.invariant.whole);
      starts = read-starts _ _ _ _ c.next_interval-next.ensures;
    }

pub words-preserved : goal.words-preserved
words-preserved c =
    let bounds = bounds-step MAX_SAFE_INTEGER _ _ _ (grind arith) c.words.invariant.starts c.next_interval-next.ensures in
    record {
      whole = cc (rw c.in_default.is at bounds, c.words.invariant.whole);
      starts = read-starts _ _ _ _ c.next_interval-next.ensures;
    }

pub returns-clause-added : goal.returns-clause-added
returns-clause-added c = grind (arith, words-last)

-- the list is to have one interval more than it has, at least
pub returns-clause-memory : goal.returns-clause-memory
returns-clause-memory c = grind (arith, longer_joined)

pub returns-in_err-running-clause-memory : goal.returns-in_err-running-clause-memory
returns-in_err-running-clause-memory c = grind (arith, longer_joined)
