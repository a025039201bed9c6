-- Statement: lists of intervals that accept the same versions in two forms, as the lenient reading and
-- node-semver's strict one give them.
use Rattle.std.specs.Prelude.{◌≡◌, ◌==◌, ◌+◌, ◌&&◌, ◌||◌, not, Bool, true, List, if◌then◌else◌}
use Rattle.std.specs.List.{AllZip}
use Rattle.semver_core.specs.Cuts.{Span, bound_eq, passes}
use Rattle.semver_core.specs.Values.Order.{version_eq}
use Rattle.semver_core.specs.Values.Versions.{VersionValue, is_release, lowest, release_value}
use Rattle.semver_core.specs.declared.TheConstants.{MAX_SAFE_INTEGER}
use Rattle.semver_core.specs.declared.cuts.bound.Bound.{Bound}
use Rattle.semver_core.specs.declared.cuts.bound.Bound.TheVariants.{Unbounded, Before, After}

-- bounds of one kind whose versions are equal, whatever their builds
abbrev pub is_same : Bound VersionValue → Bound VersionValue → Bool
is_same = bound_eq version_eq

-- the least version with the three numbers that follow those of v, where none is above
-- MAX_SAFE_INTEGER
abbrev pub following : VersionValue → VersionValue
following v =
    if not (v.patch == MAX_SAFE_INTEGER) then lowest v.major v.minor (v.patch + 1)
    else if not (v.minor == MAX_SAFE_INTEGER) then lowest v.major (v.minor + 1) 0
    else lowest (v.major + 1) 0 0

-- the upper bound `<M.m.p-0` in place of one by a release: `<1.0.0-0` of `<1.0.0`, and of
-- `<=1.9007199254740991.9007199254740991` `<2.0.0-0`
abbrev pub under_lowest : Bound VersionValue → Bound VersionValue
under_lowest Unbounded = Unbounded
under_lowest (Before v) = Before (lowest v.major v.minor v.patch)
under_lowest (After v) = Before (following v)

-- a lower bound here is the same to node-semver, or 0.0.0 here and none to node-semver
abbrev pub is_alike_lower : Bound VersionValue → Bound VersionValue → Bool
is_alike_lower b c = is_same b c || is_same b (Before (release_value 0 0 0)) && is_same Unbounded c

-- an upper bound here is the same to node-semver, or by a release here and so to node-semver
abbrev pub is_alike_upper : Bound VersionValue → Bound VersionValue → Bool
is_alike_upper b c = is_same b c || passes is_release b && is_same (under_lowest b) c

-- an interval here, and one to node-semver
abbrev pub is_alike : Span VersionValue → Span VersionValue → Bool
is_alike s t = is_alike_lower s.lower t.lower && is_alike_upper s.upper t.upper

-- each interval of a list, and the one at its place in the other
abbrev pub AreAlike : List (Span VersionValue) → List (Span VersionValue) → Type 0
AreAlike = AllZip (λ s t. is_alike s t ≡ true)
