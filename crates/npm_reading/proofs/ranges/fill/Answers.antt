use Rattle.npm_reading.proofs.Grammar.CommonReads.{common-range, common-spans}
use Rattle.npm_reading.proofs.ranges.fill.Goals as goal

pub returns-clause-ok : goal.returns-clause-ok
returns-clause-ok c =
    let read = rw c.as_bytes.ensures.value at (c.in_ok-read_common.ensures.read c.if-not-branch.false) in
    rw c.if-loose.false (common-range _ _ _ _ c.utf8.text read c.set_ranged.ensures)

pub returns-clause-range : goal.returns-clause-range
returns-clause-range c =
    let read = rw c.as_bytes.ensures.value at (c.in_ok-read_common.ensures.read c.if-not-branch.false) in
    common-spans _ _ _ _ c.utf8.text read c.set_ranged.ensures
