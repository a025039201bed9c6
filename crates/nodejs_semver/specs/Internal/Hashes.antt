-- For proofs and private contracts: what the hash of a range reads. `eq`, `hash_input` and their laws say that equal ranges
-- hash alike.
use Rattle.std.specs.Prelude.{pos, ◌++◌, List}
use Rattle.std.specs.Hash as fed
use Rattle.std.specs.Hash.{HashWrites}
use Rattle.semver_core.specs.Cuts.{Span}
use Rattle.semver_core.specs.Internal.Hashes.{version_writes}
use Rattle.semver_core.specs.Values.Versions.{VersionValue}
use Rattle.semver_core.specs.declared.cuts.bound.Bound.{Bound}
use Rattle.semver_core.specs.declared.cuts.bound.Bound.TheVariants.{Unbounded, Before, After}

abbrev pub bound_writes : Bound VersionValue → HashWrites
bound_writes Unbounded = fed.isize (pos 0)
bound_writes (Before v) = fed.isize (pos 1) ++ version_writes v
bound_writes (After v) = fed.isize (pos 2) ++ version_writes v

abbrev pub span_writes : Span VersionValue → HashWrites
span_writes s = bound_writes s.lower ++ bound_writes s.upper

abbrev pub range_writes : List (Span VersionValue) → HashWrites
range_writes = fed.slice span_writes
