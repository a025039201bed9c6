use Rattle.lock_files.proofs.Parts.{unsigned-plain}
use Rattle.lock_files.proofs.specifier.unsigned.Goals as goal

pub returns-in-None : goal.returns-in-None
returns-in-None c = unsigned-plain c.args.target.now c.in-None.ensures.cases
