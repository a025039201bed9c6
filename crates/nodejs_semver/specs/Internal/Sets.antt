-- For proofs and private contracts: the intervals of ranges, and the lists of the set operations over any order. No list stands
-- for the empty set.
use Rattle.std.specs.Prelude.{◌≡◌, ◌<◌, ◌⊎◌, ℕ, ◌&&◌, Bool, true, List, [], length, Option, unwrap_or}
use Rattle.std.specs.List.{flat_map, fold, list_any}
use Rattle.std.specs.Option.{option_to_list}
use Rattle.std.specs.Ordering.{eq_of_both, on}
use Rattle.std.specs.declared.cmp.Ordering.{Ordering}
use Rattle.semver_core.specs.Cuts.{Span, bound_eq, has_bound, is_interval, meet}
use Rattle.semver_core.specs.Values.Order.{precedence, version_eq}
use Rattle.semver_core.specs.Values.Versions.{VersionValue}
use Rattle.nodejs_semver.specs.Printing.Text.{bounds_text}
use Rattle.nodejs_semver.specs.Ranges.Algebra.{list_holds}
use Rattle.nodejs_semver.specs.Internal.Shorthands.{remainder}
use Rattle.nodejs_semver.specs.Ranges.Gate.{accepts}
use Rattle.semver_core.specs.Values.Gate.{is_range_bound}

abbrev pub option_list_holds : {V : Type 0} → (V → V → Ordering) → Option (List (Span V)) → V → Bool
option_list_holds R found v = list_holds R (unwrap_or found []) v

abbrev pub option_accepts : Option (List (Span VersionValue)) → VersionValue → Bool → Bool
option_accepts found v include = accepts (unwrap_or found []) v include

abbrev pub meets_of : {V : Type 0} → (V → V → Ordering) → List (Span V) → List (Span V) → List (Span V)
meets_of R ss ts = flat_map (λ s. flat_map (λ t. option_to_list (meet R s t)) ts) ss

abbrev pub minus : {V : Type 0} → (V → V → Ordering) → List (Span V) → List (Span V) → List (Span V)
minus R ss ts = fold (λ left t. flat_map (λ s. remainder R s t) left) ss ts

-- the lower cut is below the upper one, and both bounds are those of a range
abbrev pub is_range_span : ℕ → Span VersionValue → Bool
is_range_span limit s = is_interval precedence s && (is_range_bound limit s.lower && is_range_bound limit s.upper)

-- equal lower bounds and equal upper bounds
abbrev pub span_eq : Span VersionValue → Span VersionValue → Bool
span_eq = eq_of_both (on (λ s. s.lower) (bound_eq version_eq)) (on (λ s. s.upper) (bound_eq version_eq))

abbrev pub span_text : Span VersionValue → List ℕ
span_text s = bounds_text s.lower s.upper

-- intervals are copied with memory: two or more, or one with a bound whose copy takes some
abbrev pub AreTaking : {V : Type 0} → (V → Bool) → List (Span V) → Type 0
AreTaking takes ss = (1 < length ss) ⊎ (list_any (has_bound takes) ss ≡ true)
