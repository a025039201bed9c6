-- For proofs and private contracts: names for parts of definitions of the statement.
use Rattle.std.specs.Borrow.{Bor}
use Rattle.std.specs.Option.{option_map, option_to_list}
use Rattle.std.specs.Prelude.{◌++◌, ℕ, ◌&&◌, ◌||◌, not, if◌then◌else◌, Bool, List, [], Option, Some, None}
use Rattle.std.specs.Prelude.{map}
use Rattle.std.specs.declared.cmp.Ordering.{Ordering}
use Rattle.semver_core.specs.Cuts.{Span, is_past, lower_cut, passes, remainders, upper_cut}
use Rattle.semver_core.specs.Printing.RoundTrip.{is_within}
use Rattle.semver_core.specs.Text.Identifiers.{Id}
use Rattle.semver_core.specs.Values.Order.{precedence, version_eq}
use Rattle.semver_core.specs.Values.Versions.{VersionValue}
use Rattle.semver_core.specs.declared.cuts.bound.Bound.{Bound}
use Rattle.nodejs_semver.specs.Ranges.Outside.{is_bounded}
use Rattle.nodejs_semver.specs.Ranges.View.{span_of}

-- the value of a version that is borrowed, if there is one
abbrev pub value_of : {V : Type 0} → (V → VersionValue) → Option (Bor V) → Option VersionValue
value_of value r = option_map (λ v. value v.now) r

-- the spans of the values of versions, whatever holds these
abbrev pub spans_of : {V : Type 0} → (V → VersionValue) → List (Span V) → List (Span VersionValue)
spans_of value ss = map (span_of value) ss

-- the remainder of one span by another, as a list
abbrev pub remainder : {V : Type 0} → (V → V → Ordering) → Span V → Span V → List (Span V)
remainder R s t = option_to_list (remainders R s t).0 ++ option_to_list (remainders R s t).1

-- no number of the bound is above the limit
abbrev pub is_small : ℕ → Bound VersionValue → Bool
is_small limit b = not (passes (λ v. not (is_within limit v)) b)

-- the build of the version with which a span begins, if the result is that version, and else none
abbrev pub build_by : Option VersionValue → VersionValue → List Id
build_by begun v = elim begun [ None ↦ [] | Some x ↦ if version_eq x v then x.build else [] ]

-- the span has an upper bound, and its lower cut is not after the version
abbrev pub lies_below : Span VersionValue → VersionValue → Bool
lies_below s v = is_bounded s.upper && is_past precedence (lower_cut s.lower) v

-- the span has no bound at all, or it has a lower bound and its upper cut is not before the version
abbrev pub lies_above : Span VersionValue → VersionValue → Bool
lies_above s v = (not (is_bounded s.lower) && not (is_bounded s.upper))
    || (is_bounded s.lower && not (is_past precedence (upper_cut s.upper) v))
