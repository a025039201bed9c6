-- Statement: what the locked version of a package may be raised to, among the versions of the package in an
-- index, and the newest of them that the range does not accept.
use Rattle.std.specs.Prelude.{◌≡◌, not, ◌&&◌, ◌||◌, ℕ, Bool, true, false, List, IfSome, option_map}
use Rattle.std.specs.List.{list_all, list_any}
use Rattle.std.specs.Option.{option_copied}
use Rattle.std.specs.Ordering.{is_lt}
use Rattle.nodejs_semver.specs.Cuts.{Span}
use Rattle.nodejs_semver.specs.Failures.{NoValue}
use Rattle.nodejs_semver.specs.Order.{precedence}
use Rattle.nodejs_semver.specs.Versions.{VersionValue, is_release}
use Rattle.nodejs_semver.specs.Ranges.Best.{IsMax}
use Rattle.nodejs_semver.specs.Ranges.Gate.{accepts}
use Rattle.nodejs_semver.specs.Ranges.Outside.{is_outside}
use Rattle.nodejs_semver.specs.declared.range.outside.OutsideDirection.TheVariants.{Higher, Lower}
use Rattle.npm_words.specs.VersionText.{IsLooseVersionText}
use Rattle.semver_core.specs.declared.TheConstants.{MAX_SAFE_INTEGER}
use Rattle.lock_check.specs.Readings.{IsNotWanted, IsUnknown, IsWanted}
use Rattle.lock_check.specs.declared.raises.Prospect.{Prospect}
use Rattle.lock_check.specs.declared.raises.Prospect.TheVariants.{NoRange, NoVersion, Read, Unsure}
use Rattle.lock_check.specs.declared.raises.Raise.{Raise}
use Rattle.lock_check.specs.declared.raises.Reason.{Reason}
use Rattle.lock_check.specs.declared.raises.Reason.TheVariants.{Above, Below, Between, PreRelease}

-- a version is above another one
abbrev pub is_above : VersionValue → VersionValue → Bool
is_above v w = is_lt (precedence w v)

-- the range accepts a version, and that is above the locked one
abbrev pub is_raised : List (Span VersionValue) → VersionValue → VersionValue → Bool
is_raised r locked v = accepts r v false && is_above v locked

-- a version may be the newest: it is a release, or the index has no release
abbrev pub may_be_newest : List VersionValue → VersionValue → Bool
may_be_newest index v = is_release v || not (list_any is_release index)

-- the range does not accept a version, and that is above the locked one, and above all of the index that the
-- range accepts
abbrev pub is_beyond : List (Span VersionValue) → VersionValue → List VersionValue → VersionValue → Bool
is_beyond r locked index v = not (accepts r v false) && is_above v locked
    && list_all (λ w. not (accepts r w false) || is_above v w) index

-- why the range does not accept a version: only since that is a pre-release, or the range lies below
-- it, or above it, or on both sides of it
abbrev pub IsReason : List (Span VersionValue) → VersionValue → Reason → Type 0
IsReason r v PreRelease = accepts r v true ≡ true
IsReason r v Above = is_outside Higher true r v ≡ true
IsReason r v Below = is_outside Lower true r v ≡ true
IsReason r v Between = (accepts r v true ≡ false) × (is_outside Higher true r v ≡ false)
    × (is_outside Lower true r v ≡ false)

-- the greatest version of the index that the range accepts and that is above the locked one, None
-- exactly where there is no such version; and the greatest of those that may be the newest and are
-- beyond the range, with the reason, None likewise
pub record IsRaise (r : List (Span VersionValue)) (locked : VersionValue) (index : List VersionValue)
    (raise : Raise) : Type 0 where
  pub wanted : IsMax (is_raised r locked) index (option_copied raise.wanted)
  pub latest : IsMax (λ v. may_be_newest index v && is_beyond r locked index v) index
      (option_map (λ l. l.version.now) raise.latest)
  pub reason : IfSome raise.latest (λ l. IsReason r l.version.now l.reason)

-- the first text is a range to npm and the second one a version, of which that is said; or one of them
-- is none, or it is unknown what the first is to npm
abbrev pub IsProspect : List ℕ → List ℕ → List VersionValue → Prospect → Type 0
IsProspect wanted locked index NoRange = IsNotWanted MAX_SAFE_INTEGER wanted
IsProspect wanted locked index Unsure = IsUnknown MAX_SAFE_INTEGER wanted
IsProspect wanted locked index NoVersion = (r : List (Span VersionValue)) × IsWanted MAX_SAFE_INTEGER wanted r
    × NoValue (IsLooseVersionText MAX_SAFE_INTEGER locked)
IsProspect wanted locked index (Read raise) = (r : List (Span VersionValue)) × (v : VersionValue)
    × IsWanted MAX_SAFE_INTEGER wanted r × IsLooseVersionText MAX_SAFE_INTEGER locked v
    × IsRaise r v index raise
