-- Statement: what of one span lies within another, with the first one's own bounds where two are equal.
use Rattle.std.specs.Prelude.{Option}
use Rattle.std.specs.declared.cmp.Ordering.{Ordering}
use Rattle.semver_core.specs.Cuts.{Span, interval, greater_lower, lesser_upper}

abbrev pub clip : {V : Type 0} → (V → V → Ordering) → Span V → Span V → Option (Span V)
clip R s t = let lower = greater_lower R t.lower s.lower in let upper = lesser_upper R s.upper t.upper in
    interval R (record { lower = lower; upper = upper })
