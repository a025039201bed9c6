-- Statement: which ranges come back from their printed text, and what is read from it.
use Rattle.std.specs.Prelude.{ℕ, ◌&&◌, ◌||◌, not, Bool, if◌then◌else◌}
use Rattle.semver_core.specs.Cuts.{Span, passes}
use Rattle.semver_core.specs.Values.Versions.{VersionValue}
use Rattle.semver_core.specs.declared.cuts.bound.Bound.{Bound}
use Rattle.semver_core.specs.declared.cuts.bound.Bound.TheVariants.{Before, After}
use Rattle.semver_core.specs.Printing.RoundTrip.{is_within}
use Rattle.semver_core.specs.Values.Order.{version_eq}
use Rattle.nodejs_semver.specs.Ranges.Outside.{is_bounded}

-- an interval of a range that comes back: it is not `*`, and no number of its bounds is above the limit
abbrev pub is_printable : ℕ → Span VersionValue → Bool
is_printable n s = (is_bounded s.lower || is_bounded s.upper)
    && (not (passes (λ v. not (is_within n v)) s.lower) && not (passes (λ v. not (is_within n v)) s.upper))

-- the interval that is read from a printed one: where its ends tie, the printed version stands for both
abbrev pub bounds_back : Bound VersionValue → Bound VersionValue → Span VersionValue
bounds_back (Before v) (After w) = if version_eq v w then record { lower = Before v; upper = After v }
    else record { lower = Before v; upper = After w }
bounds_back lower upper = record { lower = lower; upper = upper }
