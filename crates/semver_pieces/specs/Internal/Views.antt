-- For proofs and private contracts. Comparators and bounds, seen without places in memory.
use Rattle.semver_core.specs.Cuts.{Span}
use Rattle.semver_core.specs.Text.Comparators.{above, at_least, at_most, below, equal}
use Rattle.semver_core.specs.Values.Versions.{VersionValue}
use Rattle.semver_pieces.specs.declared.bounds.Bounds.{Bounds}
use Rattle.semver_pieces.specs.declared.bounds.Comparator.{Comparator}
use Rattle.semver_pieces.specs.declared.bounds.Comparator.TheVariants.{Above, AtLeast, AtMost, Below, Equal}
use Rattle.semver_core.specs.Text.Comparators as Spec

abbrev pub comparator_view : Comparator → Spec.Comparator
comparator_view AtLeast = at_least
comparator_view Above = above
comparator_view Equal = equal
comparator_view AtMost = at_most
comparator_view Below = below

abbrev pub bounds_view : Bounds → Span VersionValue
bounds_view b = record { lower = b.lower; upper = b.upper }
