-- Statement. What is answered about many versions that are kept.
use Rattle.std.specs.Prelude.{◌≡◌, ◌<◌, ◌≤◌, ◌*◌, ◌^◌, ◌++◌, ◌⊎◌, Bool, if◌then◌else◌, ℕ, List}
use Rattle.std.specs.Prelude.{Option, drop, length, map}
use Rattle.semver_core.specs.Cuts.{Span}
use Rattle.semver_core.specs.Values.Versions.{VersionValue}
use Rattle.nodejs_semver.specs.Ranges.Gate.{accepts}
use Rattle.nodejs_semver_c.specs.Kept.{kept_value}
use Rattle.nodejs_semver_c.specs.Lists.{TellsFound}
use Rattle.nodejs_semver_c.specs.declared.kept.Version.{Version}
use Rattle.nodejs_semver_c.specs.declared.TheConstants.{ANSWER_NO, ANSWER_YES, TOO_LONG, TOO_SMALL}

-- an answer about an array of versions; or it has more than memory holds, at 56 bytes each, and all is
-- as it was
abbrev pub OnVersions : List Version → ℕ → Type 0 → Type 0 → Type 0
OnVersions kept status Same Answer = ((status ≡ TOO_LONG) × (2 ^ 63 ≤ 56 * length kept) × Same)
    ⊎ ((56 * length kept < 2 ^ 63) × Answer)

-- the same with a place for each version in an array; or that has room for fewer, and all is as it was
abbrev pub OnPlaces : List Version → (room status : ℕ) → Type 0 → Type 0 → Type 0
OnPlaces kept room status Same Answer = OnVersions kept status Same
    (((status ≡ TOO_SMALL) × (room < length kept) × Same) ⊎ ((length kept ≤ room) × Answer))

-- the place of the version that is so found, if there is any
abbrev pub TellsKeptPlace : (List VersionValue → Option VersionValue → Type 0) → List Version
    → (old new status : ℕ) → Type 0
TellsKeptPlace IsFound kept old new status = (found : Option VersionValue)
    × IsFound (map kept_value kept) found × TellsFound (map kept_value kept) found old new status

-- what a range says of each version, in front of what else stands there
abbrev pub TellsEachKept : List (Span VersionValue) → Bool → List Version → (old new : List ℕ) → Type 0
TellsEachKept r include kept old new = new ≡ map (λ p. if accepts r (kept_value p) include
    then ANSWER_YES else ANSWER_NO) kept ++ drop (length kept) old
