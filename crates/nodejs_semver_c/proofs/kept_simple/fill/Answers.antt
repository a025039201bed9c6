use Rattle.std.proofs.Common.{arith, refl, take_all}
use Rattle.std.proofs.lemmas.List.{take_more}
use Rattle.nodejs_semver_c.proofs.Places.{AllZip-append, refused_at}
use Rattle.nodejs_semver_c.proofs.Ranging.{no_version}
use Rattle.nodejs_semver_c.specs.Kept.{IsKept, RefusesKept}
use Rattle.nodejs_semver_c.proofs.kept_simple.fill.Goals as goal

pub versions-init : goal.versions-init
versions-init c = (rw c.requires.empty tt, c.requires.len, refl, refl)

pub push_reserved-requires : goal.push_reserved-requires
push_reserved-requires c =
    let (read, counted, room, kept) = c.versions.invariant in
    omega (arith, counted, room, c.requires.room, c.versions-test.true)

pub returns-in-Err-clause-refused : goal.returns-in-Err-clause-refused
returns-in-Err-clause-refused c =
    let (read, counted, room, kept) = c.versions.invariant in
    refused_at IsKept RefusesKept _ _ _ no_version _ c.versions-test.true read c.in-Err.ensures.refused

pub versions-preserved : goal.versions-preserved
versions-preserved c =
    let (read, counted, room, kept) = c.versions.invariant in (
      rw (c.push_reserved.ensures.items, take_more c.args.versions.now c.versions.at no_version c.versions-test.true) (AllZip-append _ _ _ _ _ read (c.in-Ok.ensures.ok, tt)),
      omega (arith, c.push_reserved.ensures.len, counted),
      omega (arith, c.push_reserved.ensures.capacity, room),
      kept,
    )

pub returns-clause-ok : goal.returns-clause-ok
returns-clause-ok c =
    let (read, counted, room, kept) = c.versions.invariant in
    (rw (take_all c.versions.at c.args.versions.now c.versions-test.false) at read, kept)
