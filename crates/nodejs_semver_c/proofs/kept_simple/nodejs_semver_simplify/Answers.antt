use Rattle.std.proofs.Common.{arith, inl, inr, refl}
use Rattle.nodejs_semver_c.proofs.kept_simple.nodejs_semver_simplify.Goals as goal

pub returns-in-Err : goal.returns-in-Err
returns-in-Err c =
    inr (omega (arith, c.if-versions-gt-MOST_VERSIONS.false), inr (c.in-Err.ensures.refused, ((refl, refl, refl, refl), refl)))

pub returns : goal.returns
returns c =
    inr (
      omega (arith, c.if-versions-gt-MOST_VERSIONS.false),
      inl (c.in-Ok.found, c.in-Ok.ensures.ok, inl ((refl, refl, refl, refl), c.in-Err-kept_versions.ensures.refused)),
    )

pub returns-in-Ok-kept_versions : goal.returns-in-Ok-kept_versions
returns-in-Ok-kept_versions c =
    inr (
      omega (arith, c.if-versions-gt-MOST_VERSIONS.false),
      inl (
        c.in-Ok.found,
        c.in-Ok.ensures.ok,
        inr (
          c.in-Ok-kept_versions.list.items,
          c.in-Ok-kept_versions.ensures.kept,
          c.in-Ok-kept_versions.ensures.ok,
          rw c.as_slice.ensures.value at c.tell_simple.ensures,
        ),
      ),
    )
