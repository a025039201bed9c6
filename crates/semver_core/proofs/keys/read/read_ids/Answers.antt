use Rattle.std.proofs.Common.{arith, append-nil, ◌∷◌, []}
use Rattle.std.proofs.lemmas.List.{map-append}
use Rattle.semver_core.proofs.Encoding.Checking.{front_key_of, ids_after, ids_last, ids_next}
use Rattle.semver_core.specs.Values.Views.{id_view, ids_view}
use Rattle.semver_core.proofs.keys.read.read_ids.Goals as goal

pub ids-preserved : goal.ids-preserved
ids-preserved c = record {
  left = ids_after c.args.key.now c.ids.others.now _ (ids_view c.ids.ids.items) (ids_view c.push.new.self.items) (id_view c.in_ok-id.id)
      c.in-Some.ensures.sound c.in_ok-id.ensures
      (rw c.in_ok-push.ensures.items (map-append id_view c.ids.ids.items (c.in_ok-id.id ∷ []))) c.ids.invariant.left;
  keyed = ids_next _ _ c.in-Some.ensures.sound c.in-Some.ensures.complete c.ids.invariant.keyed;
}

pub returns : goal.returns
returns c =
    let last = ids_last c.ids.others.now c.in_default.ensures.complete c.ids.invariant.keyed in
    rw append-nil at (c.ids.invariant.left [] last)

pub ids-init : goal.ids-init
ids-init c = record { left = grind arith; keyed = c.requires }

pub read_id-requires : goal.read_id-requires
read_id-requires c =
    let front = c.in-Some.ensures.sound in (front.0, front.1, front_key_of c.ids.others.now c.in-Some.rest.now front)
