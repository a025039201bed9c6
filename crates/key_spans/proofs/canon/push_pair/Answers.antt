use Rattle.std.proofs.Common.{arith}
use Rattle.std.proofs.lemmas.Grind.{common_steps}
use Rattle.key_spans.proofs.canon.push_pair.Goals as goal

pub returns-then-is_lt : goal.returns-then-is_lt
returns-then-is_lt c = grind (arith, common_steps)

pub returns : goal.returns
returns c = grind (arith, common_steps)
