-- Statement: which pre-releases a span of versions lets in.
use Rattle.std.specs.Prelude.{◌==◌, Bool, ◌&&◌, ◌||◌, not, ℕ, true}
use Rattle.semver_core.specs.Cuts.{Span, has_bound}
use Rattle.semver_core.specs.Values.Versions.{VersionValue, is_release}
use Rattle.semver_core.specs.declared.cuts.bound.Bound.{Bound}
use Rattle.semver_core.specs.declared.cuts.bound.Bound.TheVariants.{Before, After}
use Rattle.semver_core.specs.Printing.RoundTrip.{is_readable}

-- a span lets in every release, and a pre-release if the version of a bound is one of the same three numbers
abbrev pub lets_in : Span VersionValue → VersionValue → Bool
lets_in s v = is_release v || has_bound (λ w. not (is_release w)
    && ((w.major == v.major) && ((w.minor == v.minor) && (w.patch == v.patch)))) s

-- numbers up to the limit, and identifiers in normal form
abbrev pub is_range_bound : ℕ → Bound VersionValue → Bool
is_range_bound limit b = elim b [ Before v ↦ is_readable limit v | After v ↦ is_readable limit v | _ ↦ true ]
