use Rattle.std.specs.Option.{option_copied}
use Rattle.lock_check.proofs.Raising.{raised-none, raised-some}
use Rattle.lock_check.proofs.raises.greatest_accepted.Goals as goal

pub returns-in-Some : goal.returns-in-Some
returns-in-Some c =
    raised-some c.args.range.now c.args.locked.now c.args.versions.now c.in-Some.best.now c.is_above.result
    (option_copied c.if_kept.result) c.in-Some.ensures.best c.is_above.ensures c.if_kept.ensures

pub returns-in-None : goal.returns-in-None
returns-in-None c = raised-none c.args.range.now c.args.locked.now c.args.versions.now c.in-None.ensures.best
