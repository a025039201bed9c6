use Rattle.std.proofs.Common.{arith, refl}
use Rattle.nodejs_semver_c.proofs.intervals.tell_interval.Goals as goal

pub returns-clause-parts : goal.returns-clause-parts
returns-clause-parts c = λ more.
    let upper = c.tell_upper.ensures.parts more in
    let lower = c.tell_lower.ensures.parts (omega (arith, c.tell_upper.ensures.len.0, more)) in
    rw (lower, upper, c.lower.ensures.value, c.upper.ensures) refl
