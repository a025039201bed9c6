-- Tests of total orders, and the order of versions in two steps: by the three numbers, and then by the pre-release.
use Rattle.semver_core.{proofs.CutLaws.{gt_lt, lt, lt_not_gt, not_if, one_way, past_lt, tells}, specs.Cuts.{Beside, Cut, End, Span, Start, cut_cmp}}
use Rattle.semver_core.specs.{Cuts.{greater_lower, holds, is_past, lesser_upper, lower_cut, upper_cut}, Internal.Gate.{names, same_triple}}
use Rattle.semver_core.specs.{Internal.{OrderLaws.precedence_total, Sides.Near}, Values.{Gate.lets_in, Order.{pre_cmp, precedence}}}
use Rattle.{semver_core.specs.{Values.Versions.{VersionValue, is_release}, declared.cuts.bound.Bound.Bound}, std.proofs.Common.{Bool, Equal}}
use Rattle.std.proofs.Common.{Ordering, ap, arith, false, inl, inr, is_eq, is_gt, is_lt, not, refl, sym, true, ◌&&◌, ◌||◌, ◌∙◌, ◌≡◌}
use Rattle.std.{proofs.lemmas.{Bool.{Decides.nat_tests, cases_Bool, cond_both, not-true}, Grind.common_steps}, specs.Cmp.{IsTotalOrder, alike_right}}
use Rattle.std.specs.{Cmp.{first_so, nat_cmp_total, on_total, second_so, then_total, tied_back, tied_then, unsigned_ties, upto}, Ordering.bool_cmp}
use Rattle.std.specs.Ordering.{is_le, nat_cmp, on, ordering_then, then_cmp}
use Rattle.std.{proofs.Common.{Greater, if◌then◌else◌}, specs.Ordering.{is_ge, ordering_reverse}}

pub le_of_lt : (r : Ordering) → is_lt r ≡ true → is_le r ≡ true
le_of_lt r h = (tells r).0 ∙ ap not (lt_not_gt r h)

module _ {K : Type 0} {R : K → K → Ordering} (o : IsTotalOrder R) where
  pub lt_is : (x y : K) → is_lt (R x y) ≡ not (is_le (R y x))
  lt_is x y = ap is_lt (o.antisymm x y) ∙ (tells (R y x)).1.1 ∙ grind (arith, (tells (R y x)).0)

  pub le_trans : (x y z : K) → is_le (R x y) ≡ true → is_le (R y z) ≡ true → is_le (R x z) ≡ true
  le_trans x y z h k = grind (arith, tells, upto)

  pub lt_le : (x y z : K) → is_lt (R x y) ≡ true → is_le (R y z) ≡ true → is_lt (R x z) ≡ true
  lt_le x y z h k = lt_is x z ∙ ap not (not_if _ _ (λ m. le_trans y z x k m) (not-true _ (sym (lt_is x y) ∙ h)))

abbrev pub triple_cmp : VersionValue → VersionValue → Ordering
triple_cmp = then_cmp (on (λ v. v.major) nat_cmp) (then_cmp (on (λ v. v.minor) nat_cmp) (on (λ v. v.patch) nat_cmp))

pub triple_total : IsTotalOrder triple_cmp
triple_total = then_total (on_total (λ (v : VersionValue). v.major) nat_cmp_total)
    (then_total (on_total (λ (v : VersionValue). v.minor) nat_cmp_total) (on_total (λ (v : VersionValue). v.patch) nat_cmp_total))

-- answers in two steps
pub then_not_gt : (r s : Ordering) → is_gt (ordering_then r s) ≡ false → is_gt r ≡ false
then_not_gt r s h = grind arith

pub not_gt_then : (r s : Ordering) → is_gt r ≡ false → is_gt s ≡ false → is_gt (ordering_then r s) ≡ false
not_gt_then r s h k = grind arith

-- equal numbers are tied ones
pub same_triple_is : (v w : VersionValue) → same_triple v w ≡ is_eq (triple_cmp v w)
same_triple_is v w = grind (arith, tied_then, unsigned_ties)

-- the order of versions goes by the three numbers, and then by the pre-release
pub in_two_steps : (v w : VersionValue) → precedence v w ≡ ordering_then (triple_cmp v w) (pre_cmp v.pre_release w.pre_release)
in_two_steps v w = grind arith

pub triple_upto : (v w : VersionValue) → is_gt (precedence v w) ≡ false → is_gt (triple_cmp v w) ≡ false
triple_upto v w h = then_not_gt (triple_cmp v w) (pre_cmp v.pre_release w.pre_release) (ap is_gt (sym (in_two_steps v w)) ∙ h)

pub pre_decides : (v w : VersionValue) → triple_cmp v w ≡ Equal → precedence v w ≡ pre_cmp v.pre_release w.pre_release
pre_decides v w e = in_two_steps v w ∙ ap (λ r. ordering_then r (pre_cmp v.pre_release w.pre_release)) e

pub upto_by_both : (v w : VersionValue) → is_gt (triple_cmp v w) ≡ false → is_gt (pre_cmp v.pre_release w.pre_release) ≡ false → is_gt (precedence v w) ≡ false
upto_by_both v w h k = ap is_gt (in_two_steps v w) ∙ not_gt_then (triple_cmp v w) (pre_cmp v.pre_release w.pre_release) h k

-- a version between two of one triple is of that triple, and a pre-release if the second is
pub triple_between : (w u v : VersionValue) → triple_cmp w v ≡ Equal → is_gt (precedence w u) ≡ false → is_gt (precedence u v) ≡ false → triple_cmp u v ≡ Equal
triple_between w u v e h k = grind (arith, nat_tests, common_steps, triple_upto)

pub pre_upto : (u v : VersionValue) → is_release v ≡ false → triple_cmp u v ≡ Equal → is_gt (precedence u v) ≡ false → is_release u ≡ false
pre_upto u v k e h = grind (arith, pre_decides)

-- w is a pre-release of v's triple
abbrev pub named : VersionValue → VersionValue → Bool
named w v = not (is_release w) && same_triple w v

pub named_parts : (w v : VersionValue) → named w v ≡ true → (is_release w ≡ false) × (triple_cmp w v ≡ Equal)
named_parts w v n = grind (arith, same_triple_is)

pub named_from : (w v : VersionValue) → is_release w ≡ false → triple_cmp w v ≡ Equal → named w v ≡ true
named_from w v p t = ap (λ q. not q && same_triple w v) p ∙ same_triple_is w v ∙ ap is_eq t

-- ---- the gate: a bound that names a version, and a tighter one on its side that the version lies past too, both name it

abbrev pub below : Cut VersionValue → Cut VersionValue → Bool
below = lt precedence_total

-- the cut is beside a pre-release of v's triple
abbrev cut_names : Cut VersionValue → VersionValue → Bool
cut_names Start v = false
cut_names (Beside w s) v = named w v
cut_names End v = false

at_lower : (b : Bound VersionValue) (v : VersionValue) → names b v ≡ cut_names (lower_cut b) v
at_lower b v = grind arith

at_upper : (b : Bound VersionValue) (v : VersionValue) → names b v ≡ cut_names (upper_cut b) v
at_upper b v = grind arith

-- the points of two cuts stand in the order of the cuts
pub in_order : (w u : VersionValue) (s t : Bool) → below (Beside u t) (Beside w s) ≡ false → is_gt (precedence w u) ≡ false
in_order w u s t h = then_not_gt (precedence w u) (bool_cmp s t) (gt_lt precedence_total (Beside w s) (Beside u t) ∙ h)

pub past_order : (u v : VersionValue) (t : Bool) → is_past precedence (Beside u t) v ≡ true → is_gt (precedence u v) ≡ false
past_order u v t h = in_order u v t Near (grind (arith, past_lt precedence_total (Beside u t) v))

not_past_order : (u v : VersionValue) (t : Bool) → is_past precedence (Beside u t) v ≡ false → is_gt (precedence v u) ≡ false
not_past_order u v t h = in_order v u Near t (one_way precedence_total (Beside v Near) (Beside u t)
    (grind (arith, past_lt precedence_total (Beside u t) v)))

ruleset named_between = (triple_between, named_parts, in_order, named_from, pre_upto)

-- a cut that names v is not above another past which v lies
lower_named : (c d : Cut VersionValue) (v : VersionValue) → is_release v ≡ false → cut_names c v ≡ true → below d c ≡ false
    → is_past precedence d v ≡ true → cut_names d v ≡ true
lower_named c d v k n m h = grind (arith, past_order, named_between)

-- or not below one past which v does not lie
upper_named : (c d : Cut VersionValue) (v : VersionValue) → cut_names c v ≡ true → below c d ≡ false → is_past precedence d v ≡ false → cut_names d v ≡ true
upper_named c d v n m h = grind (arith, named_between, tied_back, triple_total, not_past_order, alike_right)

-- one of two bounds names v, and v lies between both: the one that is picked names it
greater_names : (b c : Bound VersionValue) (v : VersionValue) → is_release v ≡ false → is_past precedence (lower_cut b) v ≡ true
    → is_past precedence (lower_cut c) v ≡ true → (names b v || names c v) ≡ true → names (greater_lower precedence b c) v ≡ true
greater_names b c v k p q n = cond_both (is_gt (cut_cmp precedence (lower_cut b) (lower_cut c))) b c (λ d. names d v ≡ true)
    (λ h. grind (arith, at_lower, lower_named (lower_cut c) (lower_cut b) v k, one_way precedence_total, gt_lt precedence_total))
    (λ h. grind (arith, at_lower, lower_named (lower_cut b) (lower_cut c) v k, gt_lt precedence_total))

lesser_names : (b c : Bound VersionValue) (v : VersionValue) → is_past precedence (upper_cut b) v ≡ false
    → is_past precedence (upper_cut c) v ≡ false → (names b v || names c v) ≡ true → names (lesser_upper precedence b c) v ≡ true
lesser_names b c v p q n = cond_both (is_gt (cut_cmp precedence (upper_cut b) (upper_cut c))) c b (λ d. names d v ≡ true)
    (λ h. grind (arith, at_upper, upper_named (upper_cut b) (upper_cut c) v, one_way precedence_total, gt_lt precedence_total))
    (λ h. grind (arith, at_upper, upper_named (upper_cut c) (upper_cut b) v, gt_lt precedence_total))

-- the bounds of what two spans have in common
abbrev pub both : Span VersionValue → Span VersionValue → Span VersionValue
both s t = record { lower = greater_lower precedence s.lower t.lower; upper = lesser_upper precedence s.upper t.upper }

-- what either of two spans lets in, where both hold it, what they have in common lets in
pub lets_in-meet : (s t : Span VersionValue) (v : VersionValue) → holds precedence s v ≡ true → holds precedence t v ≡ true
    → (lets_in s v || lets_in t v) ≡ true → lets_in (both s t) v ≡ true
lets_in-meet s t v h k n = elim (cases_Bool (is_release v)) [
  | inl r ↦ rw r refl
  | inr r ↦
      rw r (picked (names s.lower v) (names s.upper v) (names t.lower v) (names t.upper v) _ _
      (greater_names s.lower t.lower v r (first_so _ _ h) (first_so _ _ k))
      (lesser_names s.upper t.upper v (not-true _ (second_so _ _ h)) (not-true _ (second_so _ _ k))) (rw r at n))
]
  where
    picked : (a b c d l u : Bool) → ((a || c) ≡ true → l ≡ true) → ((b || d) ≡ true → u ≡ true) → ((a || b) || (c || d)) ≡ true → (l || u) ≡ true
    picked a b c d l u f g h = grind arith

-- an upper bound that names v is above the lower bound of what is taken away, past which v does not lie: that one names v too
pub names_below : (b c : Bound VersionValue) (v : VersionValue) → names b v ≡ true → below (lower_cut c) (upper_cut b) ≡ true
    → is_past precedence (lower_cut c) v ≡ false → names c v ≡ true
names_below b c v n m h = grind (arith, at_lower, upper_named, at_upper, one_way, precedence_total)

-- and the same of a lower bound, the upper bound of what is taken away, and v past that
pub names_above : (b c : Bound VersionValue) (v : VersionValue) → is_release v ≡ false → names b v ≡ true
    → below (lower_cut b) (upper_cut c) ≡ true → is_past precedence (upper_cut c) v ≡ true → names c v ≡ true
names_above b c v k n m h = grind (arith, at_upper, lower_named, at_lower, one_way, precedence_total)

-- what is let in by what two spans have in common, one of them lets in
pub lets_in_one : (s t : Span VersionValue) (v : VersionValue) → lets_in (both s t) v ≡ true → (lets_in s v || lets_in t v) ≡ true
lets_in_one s t v h = either (is_release v) (names s.lower v) (names s.upper v) (names t.lower v) (names t.upper v) _ _
    (picked (is_gt (cut_cmp precedence (lower_cut s.lower) (lower_cut t.lower))) s.lower t.lower)
    (picked (is_gt (cut_cmp precedence (upper_cut s.upper) (upper_cut t.upper))) t.upper s.upper) h
  where
    picked : (i : Bool) (b c : Bound VersionValue) → names (if i then b else c) v ≡ true → (names b v || names c v) ≡ true
    picked i b c h = grind arith

    either : (r a b c d l u : Bool) → (l ≡ true → (a || c) ≡ true) → (u ≡ true → (d || b) ≡ true) → (r || (l || u)) ≡ true
        → ((r || (a || b)) || (r || (c || d))) ≡ true
    either r a b c d l u f g h = grind arith

-- a version lies past the cut of a bound by its order to the version that the bound names
turned : (r s : Ordering) → r ≡ ordering_reverse s
    → (is_le (ordering_then r Equal) ≡ is_ge s) × (is_le (ordering_then r Greater) ≡ is_gt s)
turned r s e = (grind arith, grind arith)

pub past-before : (v w : VersionValue) → is_past precedence (Beside v false) w ≡ is_ge (precedence w v)
past-before v w = (turned (precedence v w) (precedence w v) (precedence_total.antisymm v w)).0

pub past-after : (v w : VersionValue) → is_past precedence (Beside v true) w ≡ is_gt (precedence w v)
past-after v w = (turned (precedence v w) (precedence w v) (precedence_total.antisymm v w)).1

pub ruleset past_named = (past-before, past-after)
