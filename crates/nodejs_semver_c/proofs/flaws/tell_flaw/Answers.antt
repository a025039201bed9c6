use Rattle.std.proofs.Common.{inl, inr, refl}
use Rattle.nodejs_semver_c.proofs.flaws.tell_flaw.Goals as goal

pub returns-in-None : goal.returns-in-None
returns-in-None c = inl (refl, c.in-None.ensures.none.0 refl, (refl, refl))

pub returns-in-Some : goal.returns-in-Some
returns-in-Some c = inr (c.in-Some.found, refl, c.in-Some.ensures.flaw, c.told.ensures.0, c.told.ensures.1)
