use Rattle.std.proofs.Common.{inr, refl}
use Rattle.nodejs_semver_c.proofs.choices.answer_of.Goals as goal

pub returns-in-Err : goal.returns-in-Err
returns-in-Err c = inr (refl, (c.in-Err.field-0, c.in-Err.ensures.refused))
