-- Statement: what every range is.
use Rattle.std.specs.Prelude.{◌≡◌, ◌+◌, ◌<◌, ◌⊎◌, ◌&&◌, ℕ, true, List, [], ◌∷◌, length}
use Rattle.std.specs.List.{list_all, list_any}
use Rattle.semver_core.specs.Cuts.{Span, has_bound, is_interval}
use Rattle.semver_core.specs.Values.Memory.{takes_memory}
use Rattle.semver_core.specs.Values.Order.{precedence}
use Rattle.semver_core.specs.Values.Versions.{VersionValue}
use Rattle.semver_core.specs.declared.cuts.bound.Bound.{Bound}
use Rattle.semver_core.specs.declared.cuts.bound.Bound.TheVariants.{Unbounded, Before, After}
use Rattle.semver_core.specs.Values.Gate.{is_range_bound}

-- the bound and the span of the values of versions, whatever holds these
abbrev pub bound_of : {V : Type 0} → (V → VersionValue) → Bound V → Bound VersionValue
bound_of value b = elim b [ Unbounded ↦ Unbounded | Before v ↦ Before (value v) | After v ↦ After (value v) ]

abbrev pub span_of : {V : Type 0} → (V → VersionValue) → Span V → Span VersionValue
span_of value s = record { lower = bound_of value s.lower; upper = bound_of value s.upper }

-- the intervals of a range: one or more, each with its lower cut below its upper one; no number of a bound is
-- above the limit by more than one
pub record IsRange (limit : ℕ) (ss : List (Span VersionValue)) : Type 0 where
  pub some : 0 < length ss
  pub each : list_all (λ s. is_interval precedence s
      && (is_range_bound (limit + 1) s.lower && is_range_bound (limit + 1) s.upper)) ss ≡ true

-- the range is made and copied with memory: it has two intervals or more, or a bound with such a version
abbrev pub TakesMemory : List (Span VersionValue) → Type 0
TakesMemory ss = (1 < length ss) ⊎ (list_any (has_bound takes_memory) ss ≡ true)

-- the range of all versions: one interval without bounds
abbrev pub any_version : List (Span VersionValue)
any_version = record { lower = Unbounded; upper = Unbounded } ∷ []
