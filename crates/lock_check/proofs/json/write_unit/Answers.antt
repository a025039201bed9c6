use Rattle.std.proofs.Common.{arith}
use Rattle.std.proofs.lemmas.Grind.{common_steps}
use Rattle.lock_check.specs.Reports.{unit_text}
use Rattle.lock_check.proofs.json.write_unit.Goals as goal

pub returns : goal.returns
unfolding unit_text
returns c = grind (arith, common_steps)
