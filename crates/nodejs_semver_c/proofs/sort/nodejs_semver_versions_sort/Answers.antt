use Rattle.std.proofs.Common.{arith, inl, inr, refl}
use Rattle.nodejs_semver_c.proofs.Sorting.{sorted_length, tells_order}
use Rattle.nodejs_semver_c.proofs.sort.nodejs_semver_versions_sort.Goals as goal

pub returns-then-order-versions : goal.returns-then-order-versions
returns-then-order-versions c =
    inr (omega (arith, c.if-versions-gt-MOST_TEXTS.false), inl (refl, c.if-order-versions.true, (refl, refl)))

pub tell_places-requires : goal.tell_places-requires
tell_places-requires c =
    let (kept, (vs, read, all)) = c.in-Ok.ensures.ok in
    rw c.as_slice.ensures.value
    (omega (arith, sorted_length c.args.reading _ vs _ _ read all c.sort_unstable.ensures.permutation, c.if-order-versions.false))

pub returns-in-Ok : goal.returns-in-Ok
returns-in-Ok c =
    let (kept, (vs, read, all)) = c.in-Ok.ensures.ok in
    inr (
      omega (arith, c.if-versions-gt-MOST_TEXTS.false),
      inr (
        c.if-order-versions.false,
        inr (inr (
          refl,
          kept,
          tells_order c.args.reading _ vs _ _ _ _ read all c.sort_unstable.ensures.permutation
              c.sort_unstable.ensures.sorted (rw c.as_slice.ensures.value at c.tell_places.ensures),
        )),
      ),
    )

pub returns : goal.returns
returns c =
    inr (
      omega (arith, c.if-versions-gt-MOST_TEXTS.false),
      inr (
        c.if-order-versions.false,
        elim c.in-Err.ensures.refused [
          | inl rejected ↦ inr (inl (refl, rejected))
          | inr none ↦ inl (none.0, (refl, none.1), none.2)
        ],
      ),
    )
