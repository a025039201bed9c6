-- For proofs and private contracts: intervals that stand in order along the line and do not overlap.
use Rattle.std.specs.Prelude.{◌≡◌, true, false, is_some, List, [], ◌∷◌, ◌++◌}
use Rattle.std.specs.List.{list_any}
use Rattle.std.specs.Ordering.{is_lt}
use Rattle.std.specs.declared.cmp.Ordering.{Ordering}
use Rattle.semver_core.specs.Cuts.{Span, Cut, cut_cmp, lower_cut, meet, upper_cut, is_interval}

-- each is an interval that begins not below where the one before it ends, and the first not below the cut
abbrev pub IsAlong : {V : Type 0} → (V → V → Ordering) → Cut V → List (Span V) → Type 0
IsAlong R a [] = Unit {0}
IsAlong R a (s ∷ ss) =
    (is_lt (cut_cmp R (lower_cut s.lower) a) ≡ false) × ((is_interval R s ≡ true) × IsAlong R (upper_cut s.upper) ss)

-- some of the spans that stand together: those before them and behind them do not meet s
pub record IsNear {V : Type 0} (R : V → V → Ordering) (s : Span V) (ts near : List (Span V)) : Type 0 where
  pub front : List (Span V)
  pub back : List (Span V)
  pub is : ts ≡ front ++ (near ++ back)
  pub before : list_any (λ t. is_some (meet R s t)) front ≡ false
  pub behind : list_any (λ t. is_some (meet R s t)) back ≡ false
