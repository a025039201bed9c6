-- Statement. What shows that a range is no subset of another, and when looking for it may take memory.
use Rattle.std.specs.Prelude.{◌<◌, ◌≡◌, ◌⊎◌, ◌&&◌, Bool, true, false, IsTrue, List, is_some, length, not}
use Rattle.semver_core.specs.Cuts.{Span}
use Rattle.semver_core.specs.Values.Versions.{VersionValue}
use Rattle.nodejs_semver.specs.Ranges.Algebra.{difference}
use Rattle.nodejs_semver.specs.Ranges.Gate.{accepts}
use Rattle.nodejs_semver.specs.Ranges.Least.{names_identifiers}
use Rattle.nodejs_semver.specs.Ranges.Subsets.{MayTakeMemory, MayTryOne}

-- the first range accepts the version and the second does not: it is no subset
abbrev pub shows_no_subset : Bool → List (Span VersionValue) → List (Span VersionValue) → VersionValue → Bool
shows_no_subset include r s v = accepts r v include && not (accepts s v include)

-- when it may take memory to ask whether there is one: with pre-releases included, the difference is made
abbrev pub MayTry : Bool → List (Span VersionValue) → List (Span VersionValue) → Type 0
MayTry include r s = elim include [
  | false ↦ MayTryOne r s
  | true ↦ IsTrue (is_some (difference r s)) ⊎ (1 < length s)
]

-- when it may take memory to find the least one
abbrev pub MayTake : Bool → List (Span VersionValue) → List (Span VersionValue) → Type 0
MayTake include r s = elim include [
  | false ↦ ((names_identifiers r ≡ true) ⊎ (names_identifiers s ≡ true)) × MayTakeMemory r s
  | true ↦ MayTry true r s
]
