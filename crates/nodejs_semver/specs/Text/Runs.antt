-- Statement. The runs of a part: the division of its words that have bounds into intervals. The order of the
-- points is a parameter.
use Rattle.std.specs.Prelude.{◌≡◌, Bool, true, false, List, [], ◌∷◌, ◌++◌, flat_map}
use Rattle.std.specs.List.{AllByRecursion}
use Rattle.std.specs.declared.cmp.Ordering.{Ordering}
use Rattle.semver_core.specs.Cuts.{Span, is_interval, greater_lower, lesser_upper}
use Rattle.semver_core.specs.declared.cuts.bound.Bound.{Bound}

-- the lower bound of the last span with the greatest lower cut
abbrev pub greatest_lower : {V : Type 0} → (V → V → Ordering) → Span V → List (Span V) → Bound V
greatest_lower R s [] = s.lower
greatest_lower R s (t ∷ rest) = greater_lower R s.lower (greatest_lower R t rest)

-- the upper bound of the first span with the least upper cut
abbrev pub least_upper : {V : Type 0} → (V → V → Ordering) → Span V → List (Span V) → Bound V
least_upper R s [] = s.upper
least_upper R s (t ∷ rest) = lesser_upper R s.upper (least_upper R t rest)

-- a run has one word or more; these are the bounds of its words
pub record Run (V : Type 0) : Type 0 where
  pub first : Span V
  pub others : List (Span V)

-- the interval of a run
abbrev pub interval_of : {V : Type 0} → (V → V → Ordering) → Run V → Span V
interval_of R r = record { lower = greatest_lower R r.first r.others; upper = least_upper R r.first r.others }

-- whether the run's lower cut is below its upper cut
abbrev pub fits : {V : Type 0} → (V → V → Ordering) → Run V → Bool
fits R r = is_interval R (interval_of R r)

-- no run can take the first word of the next one
abbrev pub AreLongest : {V : Type 0} → (V → V → Ordering) → List (Run V) → Type 0
AreLongest R (r ∷ s ∷ rs) =
    (fits R (record r { others = r.others ++ s.first ∷ [] }) ≡ false) × AreLongest R (s ∷ rs)
AreLongest R _ = Unit {0}

-- the division of a part's bounds into runs, of which there is one
abbrev pub AreRuns : {V : Type 0} → (V → V → Ordering) → List (Span V) → List (Run V) → Type 0
AreRuns R ss rs = (flat_map (λ r. r.first ∷ r.others) rs ≡ ss) × AllByRecursion (λ r. fits R r ≡ true) rs
    × AreLongest R rs
