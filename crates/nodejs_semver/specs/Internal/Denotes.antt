-- For proofs. What a range text means, computed: `denotes` returns the list of intervals of `Means` (the law `one_meaning`).
-- The text has a range exactly where that list is not empty.
use Rattle.std.specs.Prelude.{ℕ, List, map, flat_map, filter_map, if◌then◌else◌}
use Rattle.std.specs.List.{list_all}
use Rattle.semver_core.specs.Cuts.{Span}
use Rattle.semver_core.specs.Values.Order.{precedence}
use Rattle.semver_core.specs.Values.Versions.{VersionValue}
use Rattle.semver_core.specs.Lists.{is_empty}
use Rattle.semver_core.specs.Internal.Parts.{parts}
use Rattle.nodejs_semver.specs.Ranges.View.{any_version}
use Rattle.nodejs_semver.specs.Text.Runs.{interval_of}
use Rattle.nodejs_semver.specs.Internal.RunsFrom.{runs_of}
use Rattle.nodejs_semver.specs.Text.Table.{table}
use Rattle.nodejs_semver.specs.Internal.Words.{words}

-- the bounds of the words of a part that have bounds
abbrev pub part_bounds : ℕ → List ℕ → List (Span VersionValue)
part_bounds limit part = filter_map (table limit) (words limit part)

-- the intervals of the words of a part
abbrev pub part_intervals : ℕ → List ℕ → List (Span VersionValue)
part_intervals limit part = map (interval_of precedence) (runs_of precedence (part_bounds limit part))

-- what a part means: one interval without bounds where the part is empty, and else the intervals of its words
abbrev pub part_denotes : ℕ → List ℕ → List (Span VersionValue)
part_denotes limit part = if is_empty part then any_version else part_intervals limit part

-- the intervals that a range text means: those of its parts in order. A text of empty parts alone means one interval without
-- bounds, however many parts there are.
abbrev pub denotes : ℕ → List ℕ → List (Span VersionValue)
denotes limit text = if list_all is_empty (parts text) then any_version else flat_map (part_denotes limit) (parts text)
