use Rattle.lock_files.proofs.Packed.{last-part}
use Rattle.lock_files.proofs.nested.last_part.Goals as goal

pub returns : goal.returns
returns c =
    last-part c.args.text.now c.behind_last.result.now c.behind_last-2.result.now c.behind_last-3.result.now
    c.behind_last.ensures c.behind_last-2.ensures c.behind_last-3.ensures
