use Rattle.std.proofs.Common.{◌++◌, ◌∙◌, take, refl, append_assoc, take-append-drop}
use Rattle.std.proofs.lemmas.List.{take_rest}
use Rattle.std.proofs.KnownBytes.{Appends-trans}
use Rattle.semver_answers.proofs.run.write_out.Goals as goal

pub writes-preserved : goal.writes-preserved
writes-preserved g c =
    let (done, split, appended) = c.writes.invariant in
    let more = Appends-trans _ _ _ _ _ appended c.in-Ok.ensures.bytes in
    (done ++ take c.in-Ok.n c.writes.rest.now, split ∙ rw (take_rest, append_assoc, take-append-drop) refl, more)
