-- Statement: versions that lie outside a range, above or below it.
use Rattle.std.specs.Prelude.{◌==◌, ℕ, Bool, true, ◌&&◌, ◌||◌, not, if◌then◌else◌, List, Result, Ok, Err}
use Rattle.std.specs.List.{list_all}
use Rattle.semver_core.specs.Cuts.{Span, is_past, lower_cut, passes, upper_cut}
use Rattle.semver_core.specs.Values.Order.{precedence}
use Rattle.semver_core.specs.Values.Versions.{VersionValue}
use Rattle.semver_core.specs.declared.cuts.bound.Bound.{Bound}
use Rattle.nodejs_semver.specs.Ranges.Gate.{accepts}
use Rattle.nodejs_semver.specs.declared.range.outside.OutsideDirection.{OutsideDirection}
use Rattle.nodejs_semver.specs.declared.range.outside.OutsideDirection.TheVariants.{Higher, Lower}
use Rattle.nodejs_semver.specs.declared.range.outside.RangeError.{RangeError}
use Rattle.nodejs_semver.specs.declared.range.outside.RangeError.TheVariants.{InvalidOutsideDirection}

abbrev pub is_bounded : {V : Type 0} → Bound V → Bool
is_bounded = passes (λ w. true)

-- the version is not accepted, and each span lies on the other side: below, if it has an upper bound, and
-- its lower cut is not after the version; above, if it has no bound at all, or a lower bound, and its upper
-- cut is not before the version
abbrev pub is_outside : OutsideDirection → Bool → List (Span VersionValue) → VersionValue → Bool
is_outside d include ss v = not (accepts ss v include) && list_all (λ s. elim d [
  | Higher ↦ is_bounded s.upper && is_past precedence (lower_cut s.lower) v
  | Lower ↦ (not (is_bounded s.lower) && not (is_bounded s.upper))
      || (is_bounded s.lower && not (is_past precedence (upper_cut s.upper) v))
]) ss

-- the character of a direction, `>` or `<`
abbrev pub direction_char : OutsideDirection → ℕ
direction_char d = elim d [ Higher ↦ 62 | Lower ↦ 60 ]

-- the direction of a character: every other character is an error
abbrev pub direction_of : ℕ → Result OutsideDirection RangeError
direction_of c = if c == 62 then Ok Higher else if c == 60 then Ok Lower else Err (InvalidOutsideDirection c)
