-- Shared with the layers above: tests of what a comparison answers, the order of cuts, and the points of what two spans have in
-- common or one leaves of another.
use Rattle.semver_core.proofs.Common.{Bool, None, Option, Some, ap, arith, false, refl, subst, sym, true, ℕ, ◌||◌, ◌∙◌}
use Rattle.semver_core.proofs.Common.{◌≡◌, and_parts, tied_itself, is_le, clip, Span}
use Rattle.semver_core.proofs.Common.{greater_lower, is_interval, lesser_upper, meet, option_holds, remainders, is_some, not}
use Rattle.semver_core.proofs.Common.{◌&&◌, upto, ordering_reverse, Ordering, cond_both}
use Rattle.semver_core.specs.Cuts.{Cut, Start, Beside, End, cut_cmp, is_past, lower_cut, upper_cut, interval, holds, left_below}
use Rattle.semver_core.specs.{Cuts.left_above, Internal.Sides.Near, declared.cuts.bound.Bound.Bound}
use Rattle.{std.proofs.Math.Bool.and_comm}
use Rattle.std.specs.Cmp.{IsTotalOrder, on_total, then_total, nat_cmp_total, bool_cmp_total, Lexicographic.options_total}
use Rattle.std.specs.{Option.option_cmp, Ordering.{nat_cmp, is_lt, is_gt, on, then_cmp, bool_cmp}}

-- what the tests of an answer say together
pub tells : (r : Ordering) → (is_le r ≡ not (is_gt r))
    × ((is_gt (ordering_reverse r) ≡ is_lt r) × (is_lt (ordering_reverse r) ≡ is_gt r))
tells r = (grind arith, (grind arith, grind arith))

-- a test does not hold where it would make another one hold that does not
pub not_if : (a b : Bool) → (a ≡ true → b ≡ true) → b ≡ false → a ≡ false
not_if a b f h = grind arith

pub none_of : {A : Type 0} (m : Option A) → is_some m ≡ false → m ≡ None
none_of m h = grind arith

pub lt_not_gt : (r : Ordering) → is_lt r ≡ true → is_gt r ≡ false
lt_not_gt r h = grind arith

module _ {V : Type 0} {R : V → V → Ordering} (o : IsTotalOrder R) where
  -- a cut by its place among the three kinds, and then by its point and its side
  abbrev rank : Cut V → ℕ
  rank Start = 0
  rank (Beside v s) = 1
  rank End = 2

  abbrev beside : Cut V → Option (V × Bool)
  beside (Beside v s) = Some (v, s)
  beside _ = None

  abbrev beside_cmp : V × Bool → V × Bool → Ordering
  beside_cmp = then_cmp (on (λ (p : V × Bool). p.0) R) (on (λ (p : V × Bool). p.1) bool_cmp)

  keyed : (c d : Cut V) → then_cmp (on rank nat_cmp) (on beside (option_cmp beside_cmp)) c d ≡ cut_cmp R c d
  keyed c d = grind arith

  pub cut_total : IsTotalOrder (cut_cmp R)
  cut_total = subst IsTotalOrder (λ i c d. keyed c d i) (then_total (on_total rank nat_cmp_total) (on_total beside (options_total
      (then_total (on_total (λ (p : V × Bool). p.0) o) (on_total (λ (p : V × Bool). p.1) bool_cmp_total)))))

  -- a is below b
  abbrev pub lt : Cut V → Cut V → Bool
  lt a b = is_lt (cut_cmp R a b)

  pub gt_lt : (a b : Cut V) → is_gt (cut_cmp R a b) ≡ lt b a
  gt_lt a b = ap is_gt (cut_total.antisymm a b) ∙ (tells (cut_cmp R b a)).1.0

  pub lt_trans : (a b c : Cut V) → lt a b ≡ true → lt b c ≡ true → lt a c ≡ true
  lt_trans a b c h k = grind (arith, tells, cut_total.trans a b c)

  -- what is not above b is below all that b is below
  pub chain : (a b c : Cut V) → lt b a ≡ false → lt c b ≡ false → lt c a ≡ false
  chain a b c h k = sym (gt_lt a c) ∙ upto cut_total a b c (gt_lt a b ∙ h) (gt_lt b c ∙ k)

  pub one_way : (a b : Cut V) → lt a b ≡ true → lt b a ≡ false
  one_way a b h = sym (gt_lt a b) ∙ lt_not_gt _ h

  pub upto_below : (a b c : Cut V) → lt b a ≡ false → lt b c ≡ true → lt a c ≡ true
  upto_below a b c h k = grind (arith, chain c a b)

  pub below_upto : (a b c : Cut V) → lt a b ≡ true → lt c b ≡ false → lt a c ≡ true
  below_upto a b c h k = grind (arith, chain b c a)

  pub not_below : (a b c : Cut V) → lt a b ≡ true → lt a c ≡ false → lt b c ≡ false
  not_below a b c h k = not_if _ _ (lt_trans a b c h) k

  pub not_above : (a b c : Cut V) → lt b c ≡ true → lt a c ≡ false → lt a b ≡ false
  not_above a b c h k = not_if _ _ (λ m. lt_trans a b c m h) k

  pub irreflexive : (a : Cut V) → lt a a ≡ false
  irreflexive a = ap is_lt (tied_itself cut_total a)

  -- the bound that is picked against any cut
  pub greater_below : (b c : Bound V) (x : Cut V)
      → lt (lower_cut (greater_lower R b c)) x ≡ (lt (lower_cut b) x && lt (lower_cut c) x)
  greater_below b c x = grind (arith, gt_lt, lt_trans, upto_below)

  pub below_greater : (b c : Bound V) (x : Cut V)
      → lt x (lower_cut (greater_lower R b c)) ≡ (lt x (lower_cut b) || lt x (lower_cut c))
  below_greater b c x = grind (arith, gt_lt, lt_trans, below_upto)

  pub below_lesser : (b c : Bound V) (x : Cut V)
      → lt x (upper_cut (lesser_upper R b c)) ≡ (lt x (upper_cut b) && lt x (upper_cut c))
  below_lesser b c x = grind (arith, gt_lt, lt_trans, below_upto)

  -- the greater of two lower bounds and the lesser of two upper ones are in order where all four are
  pub between : (b c d e : Bound V) → lt (lower_cut (greater_lower R b c)) (upper_cut (lesser_upper R d e))
      ≡ ((lt (lower_cut b) (upper_cut d) && lt (lower_cut b) (upper_cut e))
      && (lt (lower_cut c) (upper_cut d) && lt (lower_cut c) (upper_cut e)))
  between b c d e = rw (greater_below b c, below_lesser d e, below_lesser d e) refl

  pub between_parts : (b c d e : Bound V) → lt (lower_cut (greater_lower R b c)) (upper_cut (lesser_upper R d e)) ≡ true
      → ((lt (lower_cut b) (upper_cut d) ≡ true) × (lt (lower_cut b) (upper_cut e) ≡ true))
      × ((lt (lower_cut c) (upper_cut d) ≡ true) × (lt (lower_cut c) (upper_cut e) ≡ true))
  between_parts b c d e h = let (p, q) = and_parts _ _ (sym (between b c d e) ∙ h) in (and_parts _ _ p, and_parts _ _ q)

  pub between_from : (b c d e : Bound V) → lt (lower_cut b) (upper_cut d) ≡ true → lt (lower_cut b) (upper_cut e) ≡ true
      → lt (lower_cut c) (upper_cut d) ≡ true → lt (lower_cut c) (upper_cut e) ≡ true
      → lt (lower_cut (greater_lower R b c)) (upper_cut (lesser_upper R d e)) ≡ true
  between_from b c d e h k m n = between b c d e ∙ rw (h, k, m, n) refl

  -- a bound turned round stands for the same cut, if there is something on the other side of it
  pub turned_lower : (b : Bound V) (a : Cut V) → lt a (lower_cut b) ≡ true → upper_cut b ≡ lower_cut b
  turned_lower b a h = grind arith

  pub turned_upper : (b : Bound V) (a : Cut V) → lt (upper_cut b) a ≡ true → lower_cut b ≡ upper_cut b
  turned_upper b a h = grind arith

  pub is_some-interval : (s : Span V) → is_some (interval R s) ≡ is_interval R s
  is_some-interval s = grind arith

  -- two intervals have something in common where each reaches above the lower cut of the other
  pub meets_both : (s t : Span V) → is_interval R s ≡ true → is_interval R t ≡ true
      → is_some (meet R s t) ≡ (lt (lower_cut t.lower) (upper_cut s.upper) && lt (lower_cut s.lower) (upper_cut t.upper))
  meets_both s t h k = is_some-interval _ ∙ between s.lower t.lower s.upper t.upper ∙ rw (h, k) (grind arith)

  -- and an interval is clipped to what it meets
  pub clip-meets : (s t : Span V) → is_some (clip R s t) ≡ is_some (meet R s t)
  clip-meets s t = is_some-interval _ ∙ between t.lower s.lower s.upper t.upper
      ∙ sym (is_some-interval _ ∙ between s.lower t.lower s.upper t.upper
      ∙ and_comm (lt (lower_cut s.lower) (upper_cut s.upper) && lt (lower_cut s.lower) (upper_cut t.upper)) _)

  -- where it meets, its bounds are in order
  pub clip-ordered : (s t : Span V) (b c : Bound V) → is_some (meet R s t) ≡ true → b ≡ greater_lower R t.lower s.lower
      → c ≡ lesser_upper R s.upper t.upper → is_interval R (record { lower = b; upper = c }) ≡ true
  clip-ordered s t b c h e f = rw (e, f) (sym (is_some-interval _) ∙ clip-meets s t ∙ h)

  -- the bounds of a span that is an interval
  pub bounded : (s r : Span V) → is_some (interval R s) ≡ true → r ≡ s → Some r ≡ interval R s
  bounded s r h e = let is : is_interval R s ≡ true = sym (is_some-interval s) ∙ h in rw (e, is) refl

  -- ---- points

  -- a point lies past a cut that is not above the place just before it
  pub past_lt : (c : Cut V) (v : V) → is_past R c v ≡ not (lt (Beside v Near) c)
  past_lt c v = (tells (cut_cmp R c (Beside v Near))).0 ∙ ap not (gt_lt c (Beside v Near))

  -- what lies past a cut lies past each cut that is not above it
  pub is_past-down : (c d : Cut V) (v : V) → lt d c ≡ false → is_past R d v ≡ true → is_past R c v ≡ true
  is_past-down c d v h k = past_lt c v ∙ grind (arith, past_lt d v, chain c d (Beside v Near))

  -- a cut past which the point lies is below one past which it does not
  pub past_below : (c d : Cut V) (v : V) → is_past R c v ≡ true → is_past R d v ≡ false → lt c d ≡ true
  past_below c d v h k = upto_below c (Beside v Near) d (grind (arith, past_lt c v)) (grind (arith, past_lt d v))

  pub is_past-greater_lower : (b c : Bound V) (v : V) → is_past R (lower_cut (greater_lower R b c)) v ≡ (is_past R (lower_cut b) v && is_past R (lower_cut c) v)
  is_past-greater_lower b c v =
      past_lt _ v ∙ rw (below_greater b c (Beside v Near), past_lt (lower_cut b) v, past_lt (lower_cut c) v) (grind arith)

  pub is_past-lesser_upper : (b c : Bound V) (v : V) → is_past R (upper_cut (lesser_upper R b c)) v ≡ (is_past R (upper_cut b) v || is_past R (upper_cut c) v)
  is_past-lesser_upper b c v =
      past_lt _ v ∙ rw (below_lesser b c (Beside v Near), past_lt (upper_cut b) v, past_lt (upper_cut c) v) (grind arith)

  -- a span holds nothing where it is no interval
  pub option_holds-interval : (s : Span V) (v : V) → option_holds R (interval R s) v ≡ holds R s v
  option_holds-interval s v = grind (arith, is_past-down (lower_cut s.lower) (upper_cut s.upper) v)

  -- what two spans have in common is the points of both, with the bounds of either
  pub option_holds-meet : (s t : Span V) (v : V) → option_holds R (meet R s t) v ≡ (holds R s v && holds R t v)
  option_holds-meet s t v = option_holds-interval _ v
      ∙ rw (is_past-greater_lower s.lower t.lower v, is_past-lesser_upper s.upper t.upper v) (grind arith)

  -- where they have nothing in common, no point lies in both
  pub apart : (s t : Span V) → is_some (meet R s t) ≡ false → (v : V) → false ≡ (holds R s v && holds R t v)
  apart s t h v = ap (λ m. option_holds R m v) (sym (none_of (meet R s t) h)) ∙ option_holds-meet s t v

  pub option_holds-clip : (s t : Span V) (v : V) → option_holds R (clip R s t) v ≡ (holds R s v && holds R t v)
  option_holds-clip s t v = option_holds-interval _ v
      ∙ rw (is_past-greater_lower t.lower s.lower v, is_past-lesser_upper s.upper t.upper v) (grind arith)

  -- what is left below is past the lower cut of the first, and not past that of the second; and what is left above
  option_holds-left_below : (s t : Span V) (v : V) → option_holds R (left_below R s t) v ≡ (is_past R (lower_cut s.lower) v && not (is_past R (lower_cut t.lower) v))
  option_holds-left_below s t v =
      grind (arith, turned_lower t.lower (lower_cut s.lower), is_past-down (lower_cut t.lower) (lower_cut s.lower) v)

  option_holds-left_above : (s t : Span V) (v : V) → option_holds R (left_above R s t) v ≡ (is_past R (upper_cut t.upper) v && not (is_past R (upper_cut s.upper) v))
  option_holds-left_above s t v =
      grind (arith, turned_upper t.upper (upper_cut s.upper), is_past-down (upper_cut s.upper) (upper_cut t.upper) v)

  two_parts : (a b c d : Bool) → ((b || d) ≡ true → (a && c) ≡ true)
      → ((a && not c) || (d && not b)) ≡ ((a && not b) && not (c && not d))
  two_parts a b c d h = grind arith

  -- the bounds of what two spans have in common
  abbrev common : Span V → Span V → Span V
  common s t = record { lower = greater_lower R s.lower t.lower; upper = lesser_upper R s.upper t.upper }

  -- what one span leaves of another, by whether they have something in common
  pub remainders_by : (s t : Span V) (P : Option (Span V) × Option (Span V) → Type 0)
      → (is_interval R (common s t) ≡ true → P (left_below R s t, left_above R s t))
      → (is_interval R (common s t) ≡ false → P (Some s, None)) → P (remainders R s t)
  remainders_by s t P f g =
      cond_both (is_some (meet R s t)) _ _ P (λ h. f (sym (is_some-interval _) ∙ h)) (λ h. g (sym (is_some-interval _) ∙ h))

  pub remainders-hold : (s t : Span V) (v : V) → (option_holds R (remainders R s t).0 v || option_holds R (remainders R s t).1 v) ≡ (holds R s v && not (holds R t v))
  remainders-hold s t v =
      remainders_by s t (λ r. (option_holds R r.0 v || option_holds R r.1 v) ≡ (holds R s v && not (holds R t v)))
      (λ h. rw (option_holds-left_below s t v, option_holds-left_above s t v)
      (two_parts _ _ _ _ (λ e. sym (is_past-greater_lower s.lower t.lower v)
      ∙ is_past-down _ _ v (one_way _ _ h) (is_past-lesser_upper s.upper t.upper v ∙ e))))
      (λ h. grind (arith, option_holds-meet s t v, option_holds-interval (common s t) v))

  pub left_over : (s t : Span V) (r : Option (Span V) × Option (Span V)) → r ≡ remainders R s t → (v : V)
      → (option_holds R r.0 v || option_holds R r.1 v) ≡ (holds R s v && not (holds R t v))
  left_over s t r e v = rw e (remainders-hold s t v)
