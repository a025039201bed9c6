use Rattle.std.proofs.Common.{inl, inr, refl}
use Rattle.std.proofs.lemmas.List.{map-id}
use Rattle.nodejs_semver_c.proofs.kept_simple.tell_simple.Goals as goal

pub returns-in-Ok : goal.returns-in-Ok
returns-in-Ok c =
    let same = map-id c.args.versions.now in
    inl (c.in-Ok.simple, (rw same at c.in-Ok.ensures.same, c.in-Ok.ensures.shorter, rw same at c.in-Ok.ensures.list), c.tell_range.ensures)

pub returns-in-Err : goal.returns-in-Err
returns-in-Err c = inr (refl, (refl, refl, refl, refl), rw (map-id c.args.versions.now) at c.in-Err.ensures.memory)
