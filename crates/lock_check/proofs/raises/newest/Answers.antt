use Rattle.std.specs.Option.{option_copied}
use Rattle.lock_check.proofs.Raising.{newest-any, newest-release}
use Rattle.lock_check.proofs.raises.newest.Goals as goal

pub returns-in-Some : goal.returns-in-Some
returns-in-Some c = newest-release c.args.versions.now c.in-Some.release.now c.in-Some.ensures.element

pub returns-in-None : goal.returns-in-None
returns-in-None c =
    newest-any c.args.versions.now (option_copied c.max_satisfying_all.result) c.in-None.ensures.element
    c.max_satisfying_all.ensures.element
