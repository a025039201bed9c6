-- Statement: when a range is part of another, and when two hold the same versions.
use Rattle.std.specs.Prelude.{◌≡◌, ◌⊎◌, Bool, true, false, List}
use Rattle.std.specs.List.{Any}
use Rattle.semver_core.specs.Cuts.{Span}
use Rattle.semver_core.specs.Values.Versions.{VersionValue, is_release}
use Rattle.semver_core.specs.declared.cuts.bound.Bound.TheVariants.{After}
use Rattle.nodejs_semver.specs.Ranges.Gate.{accepts}
use Rattle.nodejs_semver.specs.Ranges.Least.{beyond}

-- the second range accepts every version that the first accepts, pre-releases being included or not
abbrev pub IsSubset : Bool → List (Span VersionValue) → List (Span VersionValue) → Type 0
IsSubset include ss ts = (v : VersionValue) → accepts ss v include ≡ true → accepts ts v include ≡ true

-- both accept the same versions
abbrev pub AcceptSame : Bool → List (Span VersionValue) → List (Span VersionValue) → Type 0
AcceptSame include ss ts = (v : VersionValue) → accepts ss v include ≡ accepts ts v include

-- a bound `>v` of the first or `<=v` of the second, of a pre-release v: the version after v is made to try it
abbrev pub MayTryOne : List (Span VersionValue) → List (Span VersionValue) → Type 0
MayTryOne ss ts = Any (λ s. (v : VersionValue) × (s.lower ≡ After v) × (is_release v ≡ false)) ss
    ⊎ Any (λ s. (v : VersionValue) × (s.upper ≡ After v) × (is_release v ≡ false)) ts

-- there is a version that the first accepts and the second does not, or there is such a bound
abbrev pub MayTakeMemory : List (Span VersionValue) → List (Span VersionValue) → Type 0
MayTakeMemory ss ts = ((v : VersionValue) × (beyond ss ts v ≡ true)) ⊎ MayTryOne ss ts
