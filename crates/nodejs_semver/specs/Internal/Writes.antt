-- For proofs. The versions that a range text writes, computed: `writes` tests `Writes` (the law `written`).
use Rattle.std.specs.Prelude.{ℕ, ◌||◌, Bool, List}
use Rattle.std.specs.List.{list_any}
use Rattle.semver_core.specs.Lists.{is_empty}
use Rattle.semver_core.specs.Values.Order.{precedence}
use Rattle.semver_core.specs.Values.Versions.{VersionValue}
use Rattle.nodejs_semver.specs.Internal.Denotes.{part_bounds}
use Rattle.semver_core.specs.Internal.Parts.{parts}
use Rattle.nodejs_semver.specs.Internal.RunsFrom.{runs_of}
use Rattle.nodejs_semver.specs.Text.WrittenSet.{run_writes}

-- an empty part writes every version, and any other what its runs do
abbrev pub part_writes : ℕ → VersionValue → List ℕ → Bool
part_writes limit v part = is_empty part || list_any (run_writes precedence v) (runs_of precedence (part_bounds limit part))

abbrev pub writes : ℕ → List ℕ → VersionValue → Bool
writes limit text v = list_any (part_writes limit v) (parts text)
