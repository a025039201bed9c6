-- Comparing the identifiers of the program is comparing what contracts see of them, and the order that counts builds.
use Rattle.semver_core.proofs.Common.{is_empty, Id, id_cmp, id_view, ids_view, Identifier, List, [], ap, refl, ◌∷◌, if◌then◌else◌}
use Rattle.semver_core.proofs.Common.{◌≡◌, slice_cmp, Equal, Greater, Less, pre_cmp, ordering_then, VersionValue, None, Option}
use Rattle.semver_core.proofs.Common.{Some, arith, ◌∙◌, kind_between, precedence_total, precedence, VersionDiff, ordering_reverse}
use Rattle.semver_core.proofs.Common.{Ordering, kind_up, same_key}
use Rattle.semver_core.specs.{Internal.OrderLaws.{id_same, ids_total, then_both}, Values.Order.build_order}
use Rattle.std.specs.{Cmp.{IsTotalOrder, on_total, then_total}, FinMap.slice_cmp-IsAntisymmetric}

pub ids_view_cmp : (xs ys : List Identifier)
    → slice_cmp (λ a b. id_cmp (id_view a) (id_view b)) xs ys ≡ slice_cmp id_cmp (ids_view xs) (ids_view ys)
ids_view_cmp [] [] = refl
ids_view_cmp (x ∷ xs) (y ∷ ys) = ap (ordering_then (id_cmp (id_view x) (id_view y))) (ids_view_cmp xs ys)
ids_view_cmp xs ys = refl

pub pre_cases : (xs ys : List Id) → pre_cmp xs ys
    ≡ (if is_empty xs then (if is_empty ys then Equal else Greater) else (if is_empty ys then Less else slice_cmp id_cmp xs ys))
pre_cases xs ys = grind arith

-- ---- `diff` is symmetric.

abbrev kind_by : Ordering → VersionValue → VersionValue → Option VersionDiff
kind_by r v w = elim r [ Less ↦ Some (kind_up v w) | Equal ↦ None | Greater ↦ Some (kind_up w v) ]

turned : (r : Ordering) (v w : VersionValue) → kind_by (ordering_reverse r) v w ≡ kind_by r w v
turned r v w = grind arith

pub difference_symmetric : (v w : VersionValue) → kind_between v w ≡ kind_between w v
difference_symmetric v w = ap (λ r. kind_by r v w) (precedence_total.antisymm v w) ∙ turned (precedence w v) v w

-- ---- the order that counts builds

pub build_total : IsTotalOrder build_order
build_total = then_total precedence_total (on_total (λ (v : VersionValue). v.build) ids_total)

pub same_value : (v w : VersionValue) → build_order v w ≡ Equal → v ≡ w
same_value v w e =
    let parts = then_both _ _ e in
    let key = same_key v w parts.0 in
    let build = slice_cmp-IsAntisymmetric id_same v.build w.build parts.1 in
    λ i. record { major = key.0 i; minor = key.1 i; patch = key.2 i; pre_release = key.3 i; build = build i }
