-- The identifiers of a pre-release and of build metadata in one list.
use Rattle.semver_core.proofs.Common.{Id, Identifier, List, [], ap, arith, drop, ids_view, id_view, length, length-drop, length-map}
use Rattle.semver_core.proofs.Common.{length-take-le, sym, take, take_rest, ◌++◌, ◌-◌, ◌∙◌, ◌∷◌, ◌≡◌, ◌≤◌}
use Rattle.std.proofs.lemmas.List.{drop-map, length-append, take-map}
use Rattle.semver_core.proofs.Common.{take-append_seam}
use Rattle.std.proofs.Math.Seq.{drop-append_seam}
use Rattle.semver_core.specs.Internal.Inside.{AreLists}
use Rattle.semver_core.specs.declared.version.lists.Lists.{Lists}

pub divided : (lists : Lists) (pre build : List Id) → ids_view lists.ids.items ≡ pre ++ build → lists.pre_len ≡ length pre
    → AreLists lists pre build
divided lists pre build whole len =
    let count : length (ids_view lists.ids.items) ≡ length lists.ids.items = length-map lists.ids.items id_view in
    grind (arith, length-append, take-append_seam, drop-append_seam)

-- a front of the identifiers, and what is behind it, where they stand
pub front_view : (lists : Lists) (items : List Identifier) → items ≡ lists.ids.items
    → ids_view (take lists.pre_len items) ≡ take lists.pre_len (ids_view lists.ids.items)
front_view lists items same = rw same (sym (take-map id_view lists.pre_len lists.ids.items))

pub rest_view : (lists : Lists) (items : List Identifier) → items ≡ lists.ids.items
    → ids_view (take (length items - lists.pre_len) (drop lists.pre_len items)) ≡ drop lists.pre_len (ids_view lists.ids.items)
rest_view lists items same = rw (same, take_rest lists.ids.items lists.pre_len) (sym (drop-map id_view lists.pre_len lists.ids.items))

-- one identifier in a pre-release alone
pub alone : (lists : Lists) (id : Id) → lists.pre_len ≤ length lists.ids.items
    → take lists.pre_len (ids_view lists.ids.items) ≡ id ∷ [] → drop lists.pre_len (ids_view lists.ids.items) ≡ []
    → (length lists.ids.items ≡ 1) × (lists.pre_len ≡ 1)
alone lists id fits pre none =
    let count : length (ids_view lists.ids.items) ≡ length lists.ids.items = length-map lists.ids.items id_view in
    let first : lists.pre_len ≡ 1 = sym (length-take-le lists.pre_len (ids_view lists.ids.items) (rw count fits)) ∙ ap length pre in
    let rest : length lists.ids.items - lists.pre_len ≡ 0 = rw count at (sym (length-drop lists.pre_len (ids_view lists.ids.items)) ∙ ap length none) in
    (omega arith, first)

pub ruleset split_views = (take-map, drop-map)
