-- For proofs and private contracts. What the comparators of an alternative have in common, as a
-- span.
use Rattle.std.specs.Prelude.{◌≡◌, ◌==◌, ◌&&◌, ◌+◌, map, Bool, true, false, List, Option, Some, None}
use Rattle.std.specs.List.{filter, list_all}
use Rattle.semver_core.specs.Cuts.{Span, interval}
use Rattle.semver_core.specs.Lists.{is_empty}
use Rattle.semver_core.specs.Values.Order.{precedence}
use Rattle.semver_core.specs.Values.Versions.{VersionValue, is_release}
use Rattle.semver_core.specs.declared.TheConstants.{MAX_SAFE_INTEGER}
use Rattle.semver_core.specs.declared.cuts.bound.Bound.{Bound}
use Rattle.semver_core.specs.declared.cuts.bound.Bound.TheVariants.{Unbounded}
use Rattle.semver_pieces.specs.Internal.Views.{bounds_view}
use Rattle.npm_words.specs.Alternatives.{common, is_valid, satisfying}
use Rattle.npm_words.specs.Table.{Comparison, Partial, counts, major, minor}
use Rattle.semver_core.specs.Values.Gate.{is_range_bound}
use Rattle.semver_pieces.specs.declared.bounds.Bounds.{Bounds}

-- the comparators that count
abbrev pub counted : Bool → List Comparison → List Comparison
counted include cs = filter (counts include) cs

abbrev pub is_open : Bound VersionValue → Bool
is_open Unbounded = true
is_open b = false

-- the span has no bounds
abbrev pub is_unbounded : Span VersionValue → Bool
is_unbounded s = is_open s.lower && is_open s.upper

-- what the comparators that count have in common
abbrev pub common_in : Bool → List Comparison → Span VersionValue
common_in include cs = common (map satisfying (counted include cs))

-- the span is that. Its bounds are such as a range may have.
pub record IsCommon (include : Bool) (cs : List Comparison) (s : Span VersionValue) : Type 0 where
  pub is : s ≡ common_in include cs
  pub lower : is_range_bound (MAX_SAFE_INTEGER + 1) s.lower ≡ true
  pub upper : is_range_bound (MAX_SAFE_INTEGER + 1) s.upper ≡ true

-- the same of an interval that there is only where the cuts of the span meet
pub record IsNarrowed (include : Bool) (cs : List Comparison) (o : Option (Span VersionValue)) : Type 0 where
  pub span : Span VersionValue
  pub has : IsCommon include cs span
  pub is : o ≡ interval precedence span

-- bounds that are read from comparators, of which each is valid; none where one is not
abbrev pub AreRead : Bool → List Comparison → Option Bounds → Type 0
AreRead include cs None = list_all (is_valid MAX_SAFE_INTEGER) cs ≡ false
AreRead include cs (Some b) =
    (list_all (is_valid MAX_SAFE_INTEGER) cs ≡ true) × IsCommon include cs (bounds_view b)

-- the version `0.0.0`, without a pre-release and without build metadata
abbrev pub is_zero : VersionValue → Bool
is_zero v = (v.major == 0) && ((v.minor == 0) && ((v.patch == 0) && (is_release v && is_empty v.build)))

-- a partial of one number or two
abbrev pub is_part : Partial → Bool
is_part (major M) = true
is_part (minor M m) = true
is_part p = false
