-- Statement: the spans above and below a version.
use Rattle.semver_core.specs.Cuts.{Span}
use Rattle.semver_core.specs.declared.cuts.bound.Bound.TheVariants.{Unbounded, Before, After}
use Rattle.semver_core.specs.Values.Versions.{VersionValue}

-- the versions that one comparator lets in, and those that two do
abbrev pub >= : VersionValue → Span VersionValue
>= v = record { lower = Before v; upper = Unbounded }

abbrev pub > : VersionValue → Span VersionValue
> v = record { lower = After v; upper = Unbounded }

abbrev pub < : VersionValue → Span VersionValue
< v = record { lower = Unbounded; upper = Before v }

abbrev pub <= : VersionValue → Span VersionValue
<= v = record { lower = Unbounded; upper = After v }
