-- Statement: ranges of spans of keys.
use Rattle.std.specs.Prelude.{◌≡◌, ◌==◌, ◌&&◌, ◌||◌, ◌-◌, Bool, List, [], ◌∷◌, true, nat_lt, not}
use Rattle.std.specs.Prelude.{None, Option, Some, if◌then◌else◌, ℕ}
use Rattle.std.specs.List.{AllZip}
use Rattle.std.specs.Ordering.{is_eq}
use Rattle.semver_core.specs.Cuts.{Span}
use Rattle.semver_core.specs.Keys.{key}
use Rattle.semver_core.specs.Values.Order.{precedence}
use Rattle.semver_core.specs.Values.Versions.{IsVersion, VersionValue, lowest, release_value}
use Rattle.semver_core.specs.declared.TheConstants.{MAX_SAFE_INTEGER}
use Rattle.semver_core.specs.declared.cuts.bound.Bound.{Bound}
use Rattle.semver_core.specs.declared.cuts.bound.Bound.TheVariants.{Unbounded, Before, After}
use Rattle.nodejs_semver.specs.Ranges.Gate.{accepts}
use Rattle.key_spans.specs.Spans.{IsCanonical, in_spans}
use Rattle.key_spans.specs.declared.KeySpan.{KeySpan}

-- the range accepts the versions of the spans
abbrev pub IsRangeOf : (include : Bool) → List KeySpan → List (Span VersionValue) → Type 0
IsRangeOf include spans r = (v : VersionValue) → IsVersion v → accepts r v include ≡ in_spans spans (key v)

-- the bound before a version; with a patch number above the limit, which texts cannot have, the bound
-- after the release before it, if no version of the span lies between the two
abbrev pub bound_at : (is_next : Bool) → VersionValue → Bound VersionValue
bound_at is_next v = if is_next && nat_lt MAX_SAFE_INTEGER v.patch
    then After (release_value v.major v.minor (v.patch - 1)) else Before v

-- a release, of spans of releases; the least of its numbers, of spans of more than these numbers
abbrev pub is_next : (releases_only apart : Bool) → VersionValue → Bool
is_next flag apart v = flag || (apart && is_eq (precedence v (lowest v.major v.minor v.patch)))

abbrev pub have_one_triple : (v w : VersionValue) → Bool
have_one_triple v w = (v.major == w.major) && ((v.minor == w.minor) && (v.patch == w.patch))

-- the interval of a span from the first version up to the last one, or without end
abbrev pub interval_of : (releases_only : Bool) → VersionValue → Option VersionValue → Span VersionValue
interval_of flag v None = record { lower = bound_at (is_next flag true v) v; upper = Unbounded }
interval_of flag v (Some w) = let apart = not (have_one_triple v w) in
    record { lower = bound_at (is_next flag apart v) v; upper = bound_at (is_next flag apart w) w }

-- the bytes are the key of the version, which has no build
pub record IsKeyOf (bytes : List ℕ) (v : VersionValue) : Type 0 where
  pub is_version : IsVersion v
  pub is_key : key v ≡ bytes
  pub no_build : v.build ≡ []

abbrev pub IsStop : List ℕ → Option VersionValue → Type 0
IsStop bytes None = bytes ≡ 255 ∷ []
IsStop bytes (Some v) = IsKeyOf bytes v

pub record IsIntervalOf (s : KeySpan) (i : Span VersionValue) : Type 0 where
  pub first : VersionValue
  pub last : Option VersionValue
  pub starts : IsKeyOf s.start.items first
  pub ends : IsStop s.stop.items last
  pub value : i ≡ interval_of s.releases_only first last

-- a range such as `simplified` returns: the intervals of a list of spans such as `key_spans` returns
abbrev pub IsSimple : (include : Bool) → List (Span VersionValue) → Type 0
IsSimple include r = (spans : List KeySpan) × IsCanonical include spans × AllZip IsIntervalOf spans r
