use Rattle.npm_reading.proofs.Grammar.CommonReads.{joined-read}
use Rattle.npm_reading.proofs.common.push_any.Goals as goal

pub returns-clause-added : goal.returns-clause-added
returns-clause-added c = c.push_read-2.ensures.added _ _
    (joined-read _ _ _ _ _ _ _ _ c.in-Some.ensures c.in-Some-second_word.ensures c.in-Some-word.ensures c.joined.ensures)
