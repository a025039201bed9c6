-- Statement: equality of ranges. It goes by the bounds, interval by interval; build metadata does not count.
use Rattle.std.specs.Prelude.{Bool, List}
use Rattle.std.specs.Cmp.Lexicographic.{pointwise}
use Rattle.std.specs.Ordering.{eq_of_both, on}
use Rattle.semver_core.specs.Cuts.{Span, bound_eq}
use Rattle.semver_core.specs.Values.Order.{version_eq}
use Rattle.semver_core.specs.Values.Versions.{VersionValue}

-- as many intervals, and each with bounds equal to those of the one in its place
abbrev pub range_eq : List (Span VersionValue) → List (Span VersionValue) → Bool
range_eq =
    pointwise (eq_of_both (on (λ s. s.lower) (bound_eq version_eq)) (on (λ s. s.upper) (bound_eq version_eq)))
