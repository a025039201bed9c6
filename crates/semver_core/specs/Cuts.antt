-- Statement: cuts of a line of ordered points, and the spans between two cuts.
use Rattle.std.specs.Prelude.{Bool, true, false, ◌&&◌, ◌||◌, not, if◌then◌else◌, Option, Some, None, is_some}
use Rattle.std.specs.declared.cmp.Ordering.{Ordering}
use Rattle.std.specs.declared.cmp.Ordering.TheVariants.{Less, Equal, Greater}
use Rattle.std.specs.Ordering.{ordering_then, bool_cmp, is_lt, is_le, is_gt}
use Rattle.semver_core.specs.declared.cuts.bound.Bound.{Bound}
use Rattle.semver_core.specs.declared.cuts.bound.Bound.TheVariants.{Unbounded, Before, After}

-- a place on the line: one of its ends, or just before (false) or just after (true) a point
pub data Cut (V : Type 0) : Type 0 where
  Start End : Cut V
  Beside : V → Bool → Cut V

-- the order of the cuts along the line: by the point, and just before it comes first
abbrev pub cut_cmp : {V : Type 0} → (V → V → Ordering) → Cut V → Cut V → Ordering
cut_cmp R Start Start = Equal
cut_cmp R End End = Equal
cut_cmp R (Beside v after) (Beside w later) = ordering_then (R v w) (bool_cmp after later)
cut_cmp R Start _ = Less
cut_cmp R _ End = Less
cut_cmp R _ _ = Greater

-- the cut that a bound makes below an interval, and above it
abbrev pub lower_cut : {V : Type 0} → Bound V → Cut V
lower_cut Unbounded = Start
lower_cut (Before v) = Beside v false
lower_cut (After v) = Beside v true

abbrev pub upper_cut : {V : Type 0} → Bound V → Cut V
upper_cut Unbounded = End
upper_cut b = lower_cut b

-- whether the point lies past the cut: the cut is not above the place just before the point
abbrev pub is_past : {V : Type 0} → (V → V → Ordering) → Cut V → V → Bool
is_past R c v = is_le (cut_cmp R c (Beside v false))

-- bounds of one kind at equal points
abbrev pub bound_eq : {V : Type 0} → (V → V → Bool) → Bound V → Bound V → Bool
bound_eq E Unbounded Unbounded = true
bound_eq E (Before v) (Before w) = E v w
bound_eq E (After v) (After w) = E v w
bound_eq E b c = false

-- the bound has a point, which passes the test
abbrev pub passes : {V : Type 0} → (V → Bool) → Bound V → Bool
passes test Unbounded = false
passes test (Before v) = test v
passes test (After v) = test v

-- a lower and an upper bound
pub record Span (V : Type 0) : Type 0 where
  pub lower : Bound V
  pub upper : Bound V

-- a bound of the span has a point that passes the test
abbrev pub has_bound : {V : Type 0} → (V → Bool) → Span V → Bool
has_bound test s = passes test s.lower || passes test s.upper

-- whether the lower cut is below the upper one
abbrev pub is_interval : {V : Type 0} → (V → V → Ordering) → Span V → Bool
is_interval R s = is_lt (cut_cmp R (lower_cut s.lower) (upper_cut s.upper))

-- the span, if it is an interval
abbrev pub interval : {V : Type 0} → (V → V → Ordering) → Span V → Option (Span V)
interval R s = if is_interval R s then Some s else None

-- whether the point lies between the two cuts
abbrev pub holds : {V : Type 0} → (V → V → Ordering) → Span V → V → Bool
holds R s v = is_past R (lower_cut s.lower) v && not (is_past R (upper_cut s.upper) v)

-- t lies within s, as cuts
abbrev pub covers : {V : Type 0} → (V → V → Ordering) → Span V → Span V → Bool
covers R s t = is_le (cut_cmp R (lower_cut s.lower) (lower_cut t.lower))
    && is_le (cut_cmp R (upper_cut t.upper) (upper_cut s.upper))

-- the lower bound that is further up, the second of equal ones
abbrev pub greater_lower : {V : Type 0} → (V → V → Ordering) → Bound V → Bound V → Bound V
greater_lower R b c = if is_gt (cut_cmp R (lower_cut b) (lower_cut c)) then b else c

-- the upper bound that is further down, the first of equal ones
abbrev pub lesser_upper : {V : Type 0} → (V → V → Ordering) → Bound V → Bound V → Bound V
lesser_upper R b c = if is_gt (cut_cmp R (upper_cut b) (upper_cut c)) then c else b

-- what two spans have in common
abbrev pub meet : {V : Type 0} → (V → V → Ordering) → Span V → Span V → Option (Span V)
meet R s t =
    interval R (record { lower = greater_lower R s.lower t.lower; upper = lesser_upper R s.upper t.upper })

-- what is left of s below t, and above t: t's bound is turned round, and so stands for the same cut
abbrev pub left_below : {V : Type 0} → (V → V → Ordering) → Span V → Span V → Option (Span V)
left_below R s t = if is_lt (cut_cmp R (lower_cut s.lower) (lower_cut t.lower))
    then Some (record { lower = s.lower; upper = t.lower }) else None

abbrev pub left_above : {V : Type 0} → (V → V → Ordering) → Span V → Span V → Option (Span V)
left_above R s t = if is_lt (cut_cmp R (upper_cut t.upper) (upper_cut s.upper))
    then Some (record { lower = t.upper; upper = s.upper }) else None

-- the lower and the upper remainder of s, which is s alone where the two have nothing in common
abbrev pub remainders : {V : Type 0} → (V → V → Ordering) → (s t : Span V) → Option (Span V) × Option (Span V)
remainders R s t = if is_some (meet R s t) then (left_below R s t, left_above R s t) else (Some s, None)

-- whether there is a span that holds the point
abbrev pub option_holds : {V : Type 0} → (V → V → Ordering) → Option (Span V) → V → Bool
option_holds R None v = false
option_holds R (Some s) v = holds R s v
