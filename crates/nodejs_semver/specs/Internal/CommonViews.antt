-- For proofs and private contracts. What the fast reader gives, seen without places in memory.
use Rattle.std.specs.Prelude.{ℕ, List, Option, Some, None}
use Rattle.std.specs.Borrow.{Bor}
use Rattle.semver_core.specs.Cuts.{Span, interval}
use Rattle.semver_core.specs.Values.Order.{precedence}
use Rattle.semver_core.specs.Values.Versions.{VersionValue}
use Rattle.nodejs_semver.specs.Internal.CommonFronts.{part_read}
use Rattle.semver_core.specs.Internal.Fronts.{Front}
use Rattle.semver_core.specs.Internal.Views.{rest_view}
use Rattle.semver_pieces.specs.Internal.Views.{bounds_view}
use Rattle.semver_pieces.specs.declared.bounds.Bounds.{Bounds}

-- the interval of the bounds, where they make one, and what follows the word
abbrev pub bounds_front_view : Option (Bounds × Bor (List ℕ)) → Front (Span VersionValue)
bounds_front_view None = None
bounds_front_view (Some p) = part_read p.1.now (interval precedence (bounds_view p.0))

-- what follows a part, and the list
abbrev pub passed_view : Option (Bor (List ℕ)) → List (Span VersionValue) → Option (List ℕ) × List (Span VersionValue)
passed_view rest list = (rest_view rest, list)
