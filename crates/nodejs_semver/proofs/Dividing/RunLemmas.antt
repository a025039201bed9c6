-- Runs: one word more, what a run holds, and the running intervals.
use Rattle.nodejs_semver.proofs.Common.{Bool, Bound, Cut, IsTotalOrder, List, None, Option, Ordering, Run, Some, Span, [], ap, arith, between_parts}
use Rattle.nodejs_semver.proofs.Common.{cases_Bool, cut_cmp, cut_total, false, fits, greater_lower, gt_lt, holds, if◌then◌else◌, inl, inr}
use Rattle.nodejs_semver.proofs.Common.{interval_of, is_gt, is_past, joined, joined_from, lesser_upper, list_all, longer, lower_cut, lt_trans, map}
use Rattle.nodejs_semver.proofs.Common.{meet, not, past_lt, refl, run_writes, runs_from, runs_of, sym, true, upper_cut, ◌&&◌, ◌++◌, ◌∙◌, ◌∷◌, ◌≡◌}
use Rattle.nodejs_semver.specs.Text.{Runs.{greatest_lower, least_upper}, WrittenSet.{is_above, is_below}}
use Rattle.{semver_core.proofs.CutLaws.{is_past-greater_lower, is_past-lesser_upper}, std.{proofs.Math.Bool.not-not, specs.Cmp.upto}}

-- the second of two where g says so
later_assoc : {A : Type 0} (g : A → A → Bool) → ((x y z : A) → g x y ≡ true → g y z ≡ true → g x z ≡ true)
    → ((x y z : A) → g x y ≡ false → g y z ≡ false → g x z ≡ false) → (x y z : A)
    → (let later : A → A → A = λ x y. if g x y then y else x in later (later x y) z ≡ later x (later y z))
later_assoc g trans chained x y z = grind arith

module _ {V : Type 0} {R : V → V → Ordering} (o : IsTotalOrder R) where
  gt_trans : (a b c : Cut V) → is_gt (cut_cmp R a b) ≡ true → is_gt (cut_cmp R b c) ≡ true → is_gt (cut_cmp R a c) ≡ true
  gt_trans a b c p q = gt_lt o a c ∙ lt_trans o c b a (sym (gt_lt o b c) ∙ q) (sym (gt_lt o a b) ∙ p)

  pub lesser_assoc : (b c d : Bound V) → lesser_upper R (lesser_upper R b c) d ≡ lesser_upper R b (lesser_upper R c d)
  lesser_assoc = grind (arith, later_assoc, gt_trans, upto, cut_total)

  pub greater_assoc : (b c d : Bound V) → greater_lower R (greater_lower R b c) d ≡ greater_lower R b (greater_lower R c d)
  greater_assoc b c d = grind (arith, later_assoc, gt_trans, upto, cut_total)

  -- the greatest lower bound with one word more, and the least upper bound
  ends-push : (s : Span V) (ts : List (Span V)) (u : Span V)
      → (greatest_lower R s (ts ++ u ∷ []) ≡ greater_lower R (greatest_lower R s ts) u.lower)
      × (least_upper R s (ts ++ u ∷ []) ≡ lesser_upper R (least_upper R s ts) u.upper)
  ends-push s [] u = (refl, refl)
  ends-push s (t ∷ rest) u = grind (arith, greater_assoc, lesser_assoc, ends-push t rest u)

  -- the interval of a run with one word more
  pub longer-is : (r : Run V) (s : Span V)
      → interval_of R (longer r s) ≡ record { lower = greater_lower R (interval_of R r).lower s.lower; upper = lesser_upper R (interval_of R r).upper s.upper }
  longer-is r s = grind (arith, ends-push r.first r.others s)

  -- a run that fits with one word more fits without it
  pub fits-shrinks : (r : Run V) (s : Span V) → fits R (longer r s) ≡ true → fits R r ≡ true
  fits-shrinks r s h = grind (arith, between_parts, longer-is)

  -- a point past a lower cut passes the comparison of the bound, and so below an upper cut
  past-above : (b : Bound V) (v : V) → is_past R (lower_cut b) v ≡ is_above R b v
  past-above b v = grind (arith, past_lt)

  past-below : (b : Bound V) (v : V) → not (is_past R (upper_cut b) v) ≡ is_below R b v
  past-below b v = grind (arith, past-above, not-not)

  above-all : (v : V) (s : Span V) (ts : List (Span V)) → is_past R (lower_cut (greatest_lower R s ts)) v ≡ list_all (λ k. is_above R k.lower v) (s ∷ ts)
  above-all v s [] = grind (arith, past-above)
  above-all v s (t ∷ rest) = grind (arith, is_past-greater_lower, past-above, above-all v t rest)

  below-all : (v : V) (s : Span V) (ts : List (Span V)) → not (is_past R (upper_cut (least_upper R s ts)) v) ≡ list_all (λ k. is_below R k.upper v) (s ∷ ts)
  below-all v s [] = grind (arith, past-below)
  below-all v s (t ∷ rest) = grind (arith, is_past-lesser_upper, past-below, below-all v t rest)

  all-both : (p q : Span V → Bool) (ss : List (Span V)) → (list_all p ss && list_all q ss) ≡ list_all (λ s. p s && q s) ss
  all-both p q [] = refl
  all-both p q (s ∷ ss) = grind (arith, all-both p q ss)

  -- the interval of a run holds what every word of the run writes
  pub run-holds : (v : V) (r : Run V) → holds R (interval_of R r) v ≡ run_writes R v r
  run-holds v r = grind (arith, above-all, below-all, all-both)

-- ---- the running intervals are those of the runs

module _ {V : Type 0} (R : V → V → Ordering) where
  pub runs-goes : (r : Run V) (i : Span V) (is : List (Span V)) → fits R (longer r i) ≡ true → runs_from R r (i ∷ is) ≡ runs_from R (longer r i) is
  unfolding runs_from
  runs-goes r i is h = rw (h, runs_from) refl

  pub runs-stops : (r : Run V) (i : Span V) (is : List (Span V)) → fits R (longer r i) ≡ false → runs_from R r (i ∷ is) ≡ r ∷ runs_from R (record { first = i; others = [] }) is
  unfolding runs_from
  runs-stops r i is h = rw (h, runs_from) refl

  pub joined-goes : (i j m : Span V) (is : List (Span V)) → meet R i j ≡ Some m → joined_from R i (j ∷ is) ≡ joined_from R m is
  unfolding joined_from
  joined-goes i j m is h = ap (λ (q : Option (Span V)). elim q [ Some m ↦ joined_from R m is | None ↦ i ∷ joined_from R j is ]) h

  pub joined-stops : (i j : Span V) (is : List (Span V)) → meet R i j ≡ None → joined_from R i (j ∷ is) ≡ i ∷ joined_from R j is
  unfolding joined_from
  joined-stops i j is h = ap (λ (q : Option (Span V)). elim q [ Some m ↦ joined_from R m is | None ↦ i ∷ joined_from R j is ]) h

module _ {V : Type 0} {R : V → V → Ordering} (o : IsTotalOrder R) where
  runs_from-joined : (r : Run V) (is : List (Span V)) → map (interval_of R) (runs_from R r is) ≡ joined_from R (interval_of R r) is
  unfolding runs_from joined_from
  runs_from-joined r [] = refl
  runs_from-joined r (i ∷ is) =
      elim (cases_Bool (fits R (longer r i))) [
        | inl goes ↦
            let m : meet R (interval_of R r) i ≡ Some (interval_of R (longer r i)) = grind (arith, longer-is) in
            rw (runs-goes R r i is goes, joined-goes R (interval_of R r) i _ is m) (runs_from-joined (longer r i) is)
        | inr stops ↦
            let m : meet R (interval_of R r) i ≡ None = grind (arith, longer-is) in
            rw (runs-stops R r i is stops, joined-stops R (interval_of R r) i is m, runs_from-joined (record { first = i; others = [] }) is) refl
      ]

  -- what the reader of a part computes is the intervals of its runs
  pub runs-joined : (bounds : List (Span V)) → joined R None bounds ≡ map (interval_of R) (runs_of R bounds)
  runs-joined bounds = grind (arith, runs_from-joined)
