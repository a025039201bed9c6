-- Statement: the least version that a range accepts, the least that it accepts and another does not, and the
-- least that several accept.
use Rattle.std.specs.Prelude.{◌≡◌, ◌+◌, Bool, true, false, ◌&&◌, not, List, [], ◌∷◌, ◌++◌, if◌then◌else◌}
use Rattle.std.specs.Prelude.{Option, Some, None, find, option_and_then}
use Rattle.std.specs.List.{list_any}
use Rattle.semver_core.specs.Cuts.{Span, has_bound, holds}
use Rattle.semver_core.specs.Lists.{is_empty}
use Rattle.semver_core.specs.Increments.Least.{IsLeast}
use Rattle.semver_core.specs.Text.Identifiers.{Id, Numeric}
use Rattle.semver_core.specs.Values.Order.{precedence, version_eq}
use Rattle.semver_core.specs.Values.Versions.{VersionValue, is_release}
use Rattle.semver_core.specs.declared.cuts.bound.Bound.{Bound}
use Rattle.semver_core.specs.declared.cuts.bound.Bound.TheVariants.{Unbounded, Before, After}
use Rattle.semver_core.specs.Values.Gate.{lets_in}
use Rattle.nodejs_semver.specs.Ranges.Gate.{accepts}

-- the result is the least version of the set, or it is None and the set is empty
abbrev pub IsLeastOf : (VersionValue → Bool) → Option VersionValue → Type 0
IsLeastOf set None = (v : VersionValue) → set v ≡ false
IsLeastOf set (Some v) = IsLeast (λ w. set w ≡ true) v

-- the first list accepts the version, and the second does not
abbrev pub beyond : List (Span VersionValue) → List (Span VersionValue) → VersionValue → Bool
beyond kept removed v = accepts kept v false && not (accepts removed v false)

-- the version with which the spans of this lower bound begin, with the bound's build: that of `>=w` itself;
-- of `>w` the next patch of a release, and a pre-release with one more identifier, the number 0
abbrev pub begins_with : Bound VersionValue → Option VersionValue
begins_with Unbounded = None
begins_with (Before w) = Some w
begins_with (After w) = Some (if is_release w then record w { patch = w.patch + 1; pre_release = [] }
    else record w { pre_release = w.pre_release ++ Numeric 0 ∷ [] })

-- the build of a result: of the version with which the first span begins that accepts it, if that is the
-- result, and else none
abbrev pub least_build : List (Span VersionValue) → VersionValue → List Id
least_build ss v =
    elim (option_and_then (λ s. begins_with s.lower) (find (λ s. holds precedence s v && lets_in s v) ss))
    [ None ↦ [] | Some x ↦ if version_eq x v then x.build else [] ]

-- a bound of the list names a pre-release, or a version with build metadata
abbrev pub names_identifiers : List (Span VersionValue) → Bool
names_identifiers ss = list_any (has_bound (λ w. not (is_release w && is_empty w.build))) ss
