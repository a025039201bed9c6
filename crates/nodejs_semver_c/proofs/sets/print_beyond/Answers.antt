use Rattle.std.proofs.Common.{inr, refl}
use Rattle.nodejs_semver_c.proofs.sets.print_beyond.Goals as goal

pub returns-in-Err : goal.returns-in-Err
returns-in-Err c = inr (refl, (refl, refl), (c.in-Err.ensures.bare, c.in-Err.ensures.memory))
