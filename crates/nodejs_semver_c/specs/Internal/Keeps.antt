-- For proofs and private contracts. Intervals of the caller, one by one.
use Rattle.std.specs.Prelude.{◌≡◌, ◌+◌, ◌&&◌, ◌||◌, ◌⊎◌, ◌∷◌, [], Bool, List, ℕ, false, not}
use Rattle.semver_core.specs.Cuts.{Span, is_past, lower_cut, upper_cut}
use Rattle.semver_core.specs.Text.Characters.{is_identifier_char}
use Rattle.semver_core.specs.Values.Gate.{is_range_bound}
use Rattle.semver_core.specs.Values.Order.{precedence}
use Rattle.semver_core.specs.Values.Versions.{VersionValue}
use Rattle.semver_core.specs.declared.TheConstants.{MAX_SAFE_INTEGER}
use Rattle.nodejs_semver.specs.Internal.Sets.{is_range_span}
use Rattle.nodejs_semver.specs.Ranges.Outside.{is_bounded}
use Rattle.nodejs_semver.specs.declared.range.outside.OutsideDirection.{OutsideDirection}
use Rattle.nodejs_semver.specs.declared.range.outside.OutsideDirection.TheVariants.{Higher, Lower}
use Rattle.nodejs_semver_c.specs.KeptRanges.{RefusesBound, is_spelled, kept_span, lower_of}
use Rattle.nodejs_semver_c.specs.declared.intervals.Bound.{Bound}
use Rattle.nodejs_semver_c.specs.declared.intervals.Interval.{Interval}
use Rattle.nodejs_semver_c.specs.declared.TheConstants.{BAD_RANGE}

-- the text is one character of identifiers
abbrev pub is_character : List ℕ → Bool
is_character (c ∷ []) = is_identifier_char c
is_character _ = false

-- the texts of the bounds spell identifiers
abbrev pub spells : Interval → Bool
spells i = is_spelled i.lower && is_spelled i.upper

-- the bound may be one of a range, on either side
abbrev pub is_sound : Bound → Bool
is_sound b = is_spelled b && is_range_bound (MAX_SAFE_INTEGER + 1) (lower_of b)

-- the interval may be one of a range
abbrev pub keeps : Interval → Bool
keeps i = (is_spelled i.lower && is_spelled i.upper) && is_range_span (MAX_SAFE_INTEGER + 1) (kept_span i)

-- the span lies on the other side of the version
abbrev pub lies_opposite : OutsideDirection → VersionValue → Span VersionValue → Bool
lies_opposite d v s = elim d [
  | Higher ↦ is_bounded s.upper && is_past precedence (lower_cut s.lower) v
  | Lower ↦ (not (is_bounded s.lower) && not (is_bounded s.upper))
      || (is_bounded s.lower && not (is_past precedence (upper_cut s.upper) v))
]

-- it is rejected with this status
abbrev pub RefusesInterval : Interval → ℕ → Type 0
RefusesInterval i status = (RefusesBound i.lower status ⊎ RefusesBound i.upper status)
    ⊎ ((status ≡ BAD_RANGE) × (keeps i ≡ false))
