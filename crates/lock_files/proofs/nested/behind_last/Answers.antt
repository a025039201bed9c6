use Rattle.lock_files.proofs.Packed.{behind-found, behind-none}
use Rattle.lock_files.proofs.nested.behind_last.Goals as goal

pub returns-in-Some : goal.returns-in-Some
returns-in-Some c =
    behind-found c.args.slash.now c.args.text.now c.in-Some.field-0-0.now c.in-Some.behind.now c.requires
    c.in-Some.ensures.cases

pub returns-in-None : goal.returns-in-None
returns-in-None c = behind-none c.args.slash.now c.args.text.now c.in-None.ensures.cases
