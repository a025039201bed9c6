-- The order in which npm reads dependencies.
use Rattle.std.proofs.Common.{◌≡◌, ◌≢◌, ◌<◌, ◌+◌, ◌∙◌, ◌∷◌, ◌++◌, [], All, ℕ, zero, suc, length, length-append, ◌⊎◌, List, Bool, Some, ap, arith, refl, subst, sym, true, false, true≢false, IsPermutation, get_or, nat_eq, inl, inr, unwrap_or}
use Rattle.std.proofs.lemmas.Bool.{eqb-true}
use Rattle.std.proofs.lemmas.Cmp.{nat_cmp_total, on_total, then_total}
use Rattle.std.proofs.lemmas.List.Sorted.{All-permutation, Contains-permutation, ranks_by, sorted_far}
use Rattle.std.proofs.lemmas.Map.Keys.{IsDistinct-IsPermutation}
use Rattle.std.proofs.lemmas.Option.{get_or_from_slice_get, slice_get-get_or, slice_get_read, slice_get_within}
use Rattle.std.proofs.lemmas.Map.Lookups.{exact_unsigned}
use Rattle.std.specs.Cmp.{IsTotalOrder, bool_cmp_total, nat_eq_equiv}
use Rattle.std.specs.Cmp.Lexicographic.{on_texts, slice_cmp}
use Rattle.std.specs.List.{AllByRecursion, IsDistinct}
use Rattle.std.specs.List.Sorted.{IsSorted}
use Rattle.std.specs.Ordering.{bool_cmp, is_lt, nat_cmp, ordering_reverse, ordering_then}
use Rattle.std.specs.Prelude.{slice_get}
use Rattle.std.specs.declared.cmp.Ordering.{Ordering}
use Rattle.std.specs.declared.cmp.Ordering.TheVariants.{Equal, Greater, Less}
use Rattle.lock_check.specs.Internal.Overriding.{AreInTurn, Turn}
use Rattle.lock_check.specs.Standing.{IsReadBefore, read_with}
use Rattle.lock_files.specs.declared.edge.Edge.{Edge}

pub record IsTurn (edges : List Edge) (t : Turn) : Type 0 where
  pub e : Edge
  pub at : slice_get edges t.2 ≡ Some e
  pub folder : t.0.now ≡ (read_with e).0
  pub is_own : t.1 ≡ (read_with e).1

-- the turns of the first edges, in their order
pub record AreTurns (edges : List Edge) (n : ℕ) (ts : List Turn) : Type 0 where
  pub long : length ts ≡ n
  pub each : (j : ℕ) (t : Turn) → slice_get ts j ≡ Some t → (t.2 ≡ j) × IsTurn edges t

abbrev turn_cmp : Turn → Turn → Ordering
turn_cmp a b = ordering_then (ordering_then (slice_cmp nat_cmp a.0.now b.0.now) (bool_cmp a.1 b.1)) (nat_cmp a.2 b.2)

turns_total : IsTotalOrder turn_cmp
turns_total = then_total (then_total (on_texts (λ t. t.0.now)) (on_total (λ t. t.1) bool_cmp_total)) (on_total (λ t. t.2) nat_cmp_total)

is_same : Turn → Turn → Bool
is_same a b = nat_eq a.2 b.2

-- ---- no number stands twice

differ : (m n : ℕ) → m ≢ n → nat_eq m n ≡ false
differ m n other = go (nat_eq m n) refl
  where
    go : (b : Bool) → nat_eq m n ≡ b → nat_eq m n ≡ false
    go true is = absurd (other (eqb-true m n is))
    go false is = is

flips : (a b : Turn) → is_same a b ≡ is_same b a
unfolding is_same
flips a b = nat_eq_equiv.symm a.2 b.2

all-other : (ts : List Turn) (k n : ℕ) → ((j : ℕ) (t : Turn) → slice_get ts j ≡ Some t → t.2 ≡ k + j) → n < k
    → (a : Turn) → a.2 ≡ n → AllByRecursion (λ b. is_same a b ≡ false) ts
unfolding is_same
all-other [] k n each low a is = tt
all-other (t ∷ ts) k n each low a is = (
  neq (each 0 t refl),
  all-other ts (suc k) n (λ j b at. omega (arith, each (suc j) b at)) (omega arith) a is,
)
  where
    neq : t.2 ≡ k + 0 → nat_eq a.2 t.2 ≡ false
    neq here = differ a.2 t.2 (λ same. absurd (omega (arith, here, same, is)))

distinct : (ts : List Turn) (k : ℕ) → ((j : ℕ) (t : Turn) → slice_get ts j ≡ Some t → t.2 ≡ k + j) → IsDistinct is_same ts
unfolding IsDistinct
distinct [] k each = tt
distinct (t ∷ ts) k each = (
  all-other ts (suc k) k (λ j b at. omega (arith, each (suc j) b at)) (omega arith) t (omega (arith, each 0 t refl)),
  distinct ts (suc k) (λ j b at. omega (arith, each (suc j) b at)),
)

other-at : (a : Turn) (ts : List Turn) (j : ℕ) (t : Turn) → AllByRecursion (λ b. is_same a b ≡ false) ts → slice_get ts j ≡ Some t
    → is_same a t ≡ false
other-at a [] j t all at = absurd (cc)
other-at a (b ∷ ts) zero t all at = subst (λ x. is_same a x ≡ false) (ap (λ o. unwrap_or o b) at) all.0
other-at a (b ∷ ts) (suc j) t all at = other-at a ts j t all.1 at

distinct-at : (ts : List Turn) (i j : ℕ) (s t : Turn) → IsDistinct is_same ts → i < j → slice_get ts i ≡ Some s
    → slice_get ts j ≡ Some t → is_same s t ≡ false
unfolding IsDistinct
distinct-at [] i j s t all low here there = absurd (cc)
distinct-at (a ∷ ts) zero zero s t all low here there = absurd (omega arith)
distinct-at (a ∷ ts) zero (suc j) s t all low here there =
    subst (λ x. is_same x t ≡ false) (ap (λ o. unwrap_or o a) here) (other-at a ts j t all.0 there)
distinct-at (a ∷ ts) (suc i) zero s t all low here there = absurd (omega arith)
distinct-at (a ∷ ts) (suc i) (suc j) s t all low here there = distinct-at ts i j s t all.1 (omega arith) here there

-- ---- in order

less : (r : Ordering) → is_lt (ordering_reverse r) ≡ false → r ≢ Equal → r ≡ Less
less Less up other = refl
less Equal up other = absurd (other refl)
less Greater up other = absurd (true≢false up)

then-equal : (r t : Ordering) → ordering_then r t ≡ Equal → t ≡ Equal
then-equal Less t same = absurd (cc)
then-equal Equal t same = same
then-equal Greater t same = absurd (cc)

equal-number : (a b : Turn) → turn_cmp a b ≡ Equal → a.2 ≡ b.2
equal-number a b same = exact_unsigned a.2 b.2
    (then-equal (ordering_then (slice_cmp nat_cmp a.0.now b.0.now) (bool_cmp a.1 b.1)) (nat_cmp a.2 b.2) same)

same-number : (a b : Turn) → a.2 ≡ b.2 → is_same a b ≡ true
unfolding is_same
same-number a b same = subst (λ n. nat_eq a.2 n ≡ true) same (nat_eq_equiv.refl a.2)

rises : (ts : List Turn) (i j : ℕ) (s t : Turn) → IsSorted turn_cmp ts → IsDistinct is_same ts → i < j
    → slice_get ts i ≡ Some s → slice_get ts j ≡ Some t → turn_cmp s t ≡ Less
rises ts i j s t up apart low here there =
    let far = sorted_far (λ x y. is_lt (turn_cmp x y)) (ranks_by turns_total (λ x. x)) ts up i j s (omega arith) (slice_get_within ts j t there) in
    less (turn_cmp s t) (first far) (λ same. true≢false (sym (same-number s t (equal-number s t same)) ∙ distinct-at ts i j s t apart low here there))
  where
    first : is_lt (turn_cmp (get_or ts j s) (get_or ts i s)) ≡ false → is_lt (ordering_reverse (turn_cmp s t)) ≡ false
    first far = subst (λ r. is_lt r ≡ false) (turns_total.antisymm t s)
        (subst (λ x. is_lt (turn_cmp x s) ≡ false) (get_or_from_slice_get ts j t s there)
        (subst (λ x. is_lt (turn_cmp (get_or ts j s) x) ≡ false) (get_or_from_slice_get ts i s s here) far))

-- ---- the turns of all edges, sorted

turn-before : (edges : List Edge) (s t : Turn) → IsTurn edges s → IsTurn edges t → turn_cmp s t ≡ Less → IsReadBefore edges s.2 t.2
turn-before edges s t a b before = (
  a.e,
  b.e,
  a.at,
  b.at,
  subst (λ f. ordering_then (ordering_then (slice_cmp nat_cmp f (read_with b.e).0) (bool_cmp (read_with a.e).1 (read_with b.e).1)) (nat_cmp s.2 t.2) ≡ Less) a.folder
      (subst (λ f. ordering_then (ordering_then (slice_cmp nat_cmp s.0.now f) (bool_cmp (read_with a.e).1 (read_with b.e).1)) (nat_cmp s.2 t.2) ≡ Less) b.folder
      (subst (λ o. ordering_then (ordering_then (slice_cmp nat_cmp s.0.now t.0.now) (bool_cmp o (read_with b.e).1)) (nat_cmp s.2 t.2) ≡ Less) a.is_own
      (subst (λ o. ordering_then (ordering_then (slice_cmp nat_cmp s.0.now t.0.now) (bool_cmp s.1 o)) (nat_cmp s.2 t.2) ≡ Less) b.is_own before))),
)

all-turns : (edges : List Edge) (ts : List Turn) → AreTurns edges (length edges) ts → All (IsTurn edges) ts
all-turns edges ts are = λ k d within.
    (are.each k (get_or ts k d) (slice_get-get_or ts k d within)).1

turn-of : (edges : List Edge) (us : List Turn) (j : ℕ) (t : Turn) → All (IsTurn edges) us → slice_get us j ≡ Some t → IsTurn edges t
turn-of edges us j t all at =
    subst (IsTurn edges) (get_or_from_slice_get us j t t at) (all j t (slice_get_within us j t at))

pub sorted-turns : (edges : List Edge) (ts us : List Turn) → AreTurns edges (length edges) ts → IsPermutation ts us
    → IsSorted turn_cmp us → AreInTurn edges us
sorted-turns edges ts us are shuffled up =
    let all = All-permutation (IsTurn edges) ts us shuffled (all-turns edges ts are) in record {
      each = λ j t at. let is = turn-of edges us j t all at in (is.e, is.at);
      rises = λ i j s t low here there. turn-before edges s t (turn-of edges us i s all here) (turn-of edges us j t all there)
          (rises us i j s t up (IsDistinct-IsPermutation is_same flips ts us shuffled
          (distinct ts 0 (λ j t at. omega (arith, (are.each j t at).0)))) low here there);
      all = λ n e at.
          let within = slice_get_within edges n e at in
          let some : Turn = (record { ref_ptr = (0, 0); now = [] }, false, 0) in
          let first = get_or ts n some in
          let here = slice_get-get_or ts n some (subst (λ k. n < k) (sym are.long) within) in
          let has = Contains-permutation ts us first shuffled
          (n, slice_get_within ts n first here, get_or_from_slice_get ts n first first here) in (
            has.0,
            first,
            slice_get_read us (length us) has.0 first refl has.1 (sym has.2),
            (are.each n first here).0,
          );
    }

-- ---- one turn more

pub turns-none : (edges : List Edge) (ts : List Turn) → ts ≡ [] → AreTurns edges 0 ts
turns-none edges ts none = record {
  long = ap length none;
  each = λ j t at. absurd (let less = slice_get_within ts j t at in omega (arith, ap length none));
}

-- an element of a list with one more is one of before, or that one
pub push-cases : {X : Type 0} (xs : List X) (y : X) (j : ℕ) (u : X) → slice_get (xs ++ y ∷ []) j ≡ Some u
    → (slice_get xs j ≡ Some u) ⊎ ((j ≡ length xs) × (y ≡ u))
push-cases [] y zero u at = inr (refl, ap (λ o. unwrap_or o y) at)
push-cases [] y (suc j) u at = absurd (cc)
push-cases (x ∷ xs) y zero u at = inl at
push-cases (x ∷ xs) y (suc j) u at = elim (push-cases xs y j u at) [
  | inl before ↦ inl before
  | inr (last, same) ↦ inr (omega (arith, last), same)
]

pub turns-more : (edges : List Edge) (n : ℕ) (before after : List Turn) (t : Turn) → AreTurns edges n before
    → after ≡ before ++ t ∷ [] → t.2 ≡ n → IsTurn edges t → AreTurns edges (n + 1) after
turns-more edges n before after t are more number is = record {
  long = omega (arith, ap length more, length-append before (t ∷ []), are.long);
  each = λ j u at. elim (push-cases before t j u (subst (λ ts. slice_get ts j ≡ Some u) more at)) [
    | inl old ↦ are.each j u old
    | inr (last, same) ↦ subst (λ x. (x.2 ≡ j) × IsTurn edges x) same (omega (arith, number, last, are.long), is)
  ];
}
