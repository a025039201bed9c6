use Rattle.std.specs.Option.{option_copied}
use Rattle.lock_check.proofs.Raising.{latest-none, latest-some}
use Rattle.lock_check.proofs.raises.newest_beyond.Goals as goal

pub returns-in-Some : goal.returns-in-Some
returns-in-Some c =
    latest-some c.args.range.now c.args.locked.now c.args.versions.now c.in-Some.newest.now
    (option_copied c.max_satisfying-best.result) c.is_above_both.result (option_copied c.if_kept.result)
    c.in-Some.ensures c.max_satisfying-best.ensures.best c.is_above_both.ensures c.if_kept.ensures

pub returns-in-None : goal.returns-in-None
returns-in-None c = latest-none c.args.range.now c.args.locked.now c.args.versions.now c.in-None.ensures
