-- A sweep over spans in the order of their starts gives the canonical list.
use Rattle.std.proofs.Common.{suc, ◌≡◌, ◌&&◌, ◌||◌, ◌++◌, List, [], ◌∷◌, Bool, true, false, refl, ap, ◌∙◌, sym, true≢false, arith}
use Rattle.std.proofs.lemmas.Bool.{and_from, and_left, and_right}
use Rattle.std.proofs.Math.Bool.{or-false}
use native.Mathlib.Numerals.{unary_clauses}
use Rattle.std.specs.Prelude.{if◌then◌else◌}
use Rattle.std.specs.Cmp.{IsTotalOrder}
use Rattle.std.specs.List.{fold}
use Rattle.std.proofs.lemmas.List.Sorted.{list_any-IsPermutation}
use Rattle.std.specs.List.Sorted.{IsPermutation, IsSortedBy}
use Rattle.std.specs.Ordering.{is_le, is_lt}
use Rattle.std.specs.declared.cmp.Ordering.{Ordering}
use Rattle.key_spans.proofs.Line as line
use Rattle.key_spans.proofs.Line.{and_first, and_second, by_bool}
use Rattle.key_spans.proofs.Unique.{tail_past}
use Rattle.key_spans.specs.Internal.Sets.{has, holds, is_canonical, is_past}
use Rattle.key_spans.specs.Internal.Sets.{alone, joined, later, pair}
use Rattle.key_spans.specs.Internal.Sets.{Stretch}

pub joined_last : {A : Type 0} (R : A → A → Ordering) (xs : List (Stretch A)) (c s : Stretch A)
    → joined R (xs ++ c ∷ []) s ≡ xs ++ pair R c s
joined_last R [] c s = refl
joined_last R (x ∷ []) c s = refl
joined_last R (x ∷ y ∷ xs) c s = ap (λ l. x ∷ l) (joined_last R (y ∷ xs) c s)

near_cases : (p q a b : Bool) → (q ≡ true → p ≡ true) → (q ≡ false → a ≡ true)
    → ((p && (a || b)) || false) ≡ (((p && a) || false) || (q && b))
near_cases true true true b h g = refl
near_cases true true false b h g = or-false b
near_cases true false true b h g = refl
near_cases true false false b h g = absurd (true≢false (sym (g refl)))
near_cases false true a b h g = absurd (true≢false (sym (h refl)))
near_cases false false a b h g = refl

-- the starts are not past b
abbrev pub starts_upto : {A : Type 0} → (A → A → Ordering) → A → List (Stretch A) → Bool
starts_upto R b [] = true
starts_upto R b (s ∷ ss) = is_le (R s.start b) && starts_upto R b ss

-- the starts rise from b on
abbrev pub rising : {A : Type 0} → (A → A → Ordering) → A → List (Stretch A) → Bool
rising R b [] = true
rising R b (s ∷ ss) = is_le (R b s.start) && rising R s.start ss

pub record IsSweep {A : Type 0} (R : A → A → Ordering) (out done todo : List (Stretch A)) : Type 0 where
  pub canonical : is_canonical R out ≡ true
  pub same : (k : A) → has R out k ≡ (has R done k || has R todo k)

module _ {A : Type 0} {R : A → A → Ordering} (o : IsTotalOrder R) where
  empty_none : (s : Stretch A) → is_lt (R s.start s.stop) ≡ false → (k : A) → holds R s k ≡ false
  empty_none s h k = by_bool (is_le (R s.start k))
      (λ e. and_right _ _ (line.not_lt o k s.stop (line.le_le o s.stop s.start k (line.le_from_not o s.start s.stop h) e)))
      (λ e. and_left _ _ e)

  alone_by : (t : Bool) (s : Stretch A) → is_lt (R s.start s.stop) ≡ t → (k : A) → has R (if t then s ∷ [] else []) k ≡ holds R s k
  alone_by true s h k = or-false _
  alone_by false s h k = sym (empty_none s h k)

  alone_has : (s : Stretch A) (k : A) → has R (alone R s) k ≡ holds R s k
  alone_has s k = alone_by (is_lt (R s.start s.stop)) s refl k

  later_by : (t : Bool) (a b k : A) → is_lt (R a b) ≡ t → is_lt (R k (if t then b else a)) ≡ (is_lt (R k a) || is_lt (R k b))
  later_by true a b k h = by_bool (is_lt (R k a))
      (λ e. line.lt_after_le o k a b (line.le_from_lt o k a e) h ∙ sym (ap (λ x. x || is_lt (R k b)) e))
      (λ e. sym (ap (λ x. x || is_lt (R k b)) e))
  later_by false a b k h = by_bool (is_lt (R k b))
      (λ e. let u : is_lt (R k a) ≡ true = line.lt_before_le o k b a e (line.le_from_not o a b h) in
      u ∙ sym (ap (λ x. x || is_lt (R k b)) u))
      (λ e. sym (ap (λ x. is_lt (R k a) || x) e ∙ or-false _))

  later_lt : (a b k : A) → is_lt (R k (later R a b)) ≡ (is_lt (R k a) || is_lt (R k b))
  later_lt a b k = later_by (is_lt (R a b)) a b k refl

  pair_by : (t : Bool) (c s : Stretch A) → is_lt (R c.stop s.start) ≡ t → is_le (R c.start s.start) ≡ true → (k : A)
      → has R (if t then c ∷ alone R s else record { start = c.start; stop = later R c.stop s.stop } ∷ []) k
      ≡ ((holds R c k || false) || holds R s k)
  pair_by true c s h g k = λ i. sym (or-false (holds R c k)) i || alone_has s k i
  pair_by false c s h g k =
      (λ i. (is_le (R c.start k) && later_lt c.stop s.stop k i) || false)
      ∙ near_cases (is_le (R c.start k)) (is_le (R s.start k)) (is_lt (R k c.stop)) (is_lt (R k s.stop))
      (line.le_le o c.start s.start k g)
      (λ e. line.lt_before_le o k s.start c.stop (line.lt_from_not o k s.start e) (line.le_from_not o c.stop s.start h))

  pair_has : (c s : Stretch A) → is_le (R c.start s.start) ≡ true → (k : A)
      → has R (pair R c s) k ≡ ((holds R c k || false) || holds R s k)
  pair_has c s = pair_by (is_lt (R c.stop s.start)) c s refl

  or_assoc : (a b c : Bool) → (a || (b || c)) ≡ ((a || b) || c)
  or_assoc true b c = refl
  or_assoc false b c = refl

  joined_has : (out : List (Stretch A)) (s : Stretch A) → starts_upto R s.start out ≡ true → (k : A)
      → has R (joined R out s) k ≡ (has R out k || holds R s k)
  joined_has [] s h k = alone_has s k
  joined_has (c ∷ []) s h k = pair_has c s (and_first _ _ h) k
  joined_has (c ∷ d ∷ cs) s h k =
      ap (λ b. holds R c k || b) (joined_has (d ∷ cs) s (and_second (is_le (R c.start s.start)) _ h) k)
      ∙ or_assoc (holds R c k) (has R (d ∷ cs) k) (holds R s k)

  -- ---- what is left is canonical

  alone_past_by : (t : Bool) (p : A) (s : Stretch A) → is_lt (R s.start s.stop) ≡ t → is_lt (R p s.start) ≡ true
      → is_past R p (if t then s ∷ [] else []) ≡ true
  alone_past_by true p s h g = and_from _ _ g (and_from _ _ h refl)
  alone_past_by false p s h g = refl

  alone_past : (p : A) (s : Stretch A) → is_lt (R p s.start) ≡ true → is_past R p (alone R s) ≡ true
  alone_past p s = alone_past_by (is_lt (R s.start s.stop)) p s refl

  alone_canonical_by : (t : Bool) (s : Stretch A) → is_lt (R s.start s.stop) ≡ t → is_canonical R (if t then s ∷ [] else []) ≡ true
  alone_canonical_by true s h = and_from _ _ h refl
  alone_canonical_by false s h = refl

  before_later : (a b c : A) → is_lt (R c a) ≡ true → is_lt (R c (later R a b)) ≡ true
  before_later a b c h = later_lt a b c ∙ ap (λ x. x || is_lt (R c b)) h

  pair_past_by : (t : Bool) (p : A) (c s : Stretch A) → is_lt (R c.stop s.start) ≡ t → is_lt (R p c.start) ≡ true
      → is_lt (R c.start c.stop) ≡ true
      → is_past R p (if t then c ∷ alone R s else record { start = c.start; stop = later R c.stop s.stop } ∷ []) ≡ true
  pair_past_by true p c s h g f = and_from _ _ g (and_from _ _ f (alone_past c.stop s h))
  pair_past_by false p c s h g f = and_from _ _ g (and_from _ _ (before_later c.stop s.stop c.start f) refl)

  pair_canonical_by : (t : Bool) (c s : Stretch A) → is_lt (R c.stop s.start) ≡ t → is_lt (R c.start c.stop) ≡ true
      → is_canonical R (if t then c ∷ alone R s else record { start = c.start; stop = later R c.stop s.stop } ∷ []) ≡ true
  pair_canonical_by true c s h f = and_from _ _ f (alone_past c.stop s h)
  pair_canonical_by false c s h f = and_from _ _ (before_later c.stop s.stop c.start f) refl

  joined_past : (p : A) (c : Stretch A) (cs : List (Stretch A)) (s : Stretch A) → is_past R p (c ∷ cs) ≡ true
      → is_past R p (joined R (c ∷ cs) s) ≡ true
  joined_past p c [] s h = pair_past_by (is_lt (R c.stop s.start)) p c s refl (and_first _ _ h)
      (and_first _ _ (and_second (is_lt (R p c.start)) _ h))
  joined_past p c (d ∷ cs) s h =
      let more : (is_lt (R c.start c.stop) && is_past R c.stop (d ∷ cs)) ≡ true = and_second (is_lt (R p c.start)) _ h in
      and_from _ _ (and_first _ _ h) (and_from _ _ (and_first _ _ more)
      (joined_past c.stop d cs s (and_second (is_lt (R c.start c.stop)) _ more)))

  joined_canonical : (out : List (Stretch A)) (s : Stretch A) → is_canonical R out ≡ true → is_canonical R (joined R out s) ≡ true
  joined_canonical [] s h = alone_canonical_by (is_lt (R s.start s.stop)) s refl
  joined_canonical (c ∷ []) s h = pair_canonical_by (is_lt (R c.stop s.start)) c s refl (and_first _ _ h)
  joined_canonical (c ∷ d ∷ cs) s h = and_from _ _ (and_first _ _ h) (joined_past c.stop d cs s (tail_past o c (d ∷ cs) h))

  -- ---- the starts stay in order

  pub upto_more : (a b : A) (ss : List (Stretch A)) → is_le (R a b) ≡ true → starts_upto R a ss ≡ true → starts_upto R b ss ≡ true
  upto_more a b [] h g = refl
  upto_more a b (s ∷ ss) h g = and_from _ _ (line.le_le o s.start a b (and_first _ _ g) h)
      (upto_more a b ss h (and_second (is_le (R s.start a)) _ g))

  alone_upto_by : (t : Bool) (b : A) (s : Stretch A) → is_le (R s.start b) ≡ true → starts_upto R b (if t then s ∷ [] else []) ≡ true
  alone_upto_by true b s h = and_from _ _ h refl
  alone_upto_by false b s h = refl

  pair_upto_by : (t : Bool) (b : A) (c s : Stretch A) → is_le (R c.start b) ≡ true → is_le (R s.start b) ≡ true
      → starts_upto R b (if t then c ∷ alone R s else record { start = c.start; stop = later R c.stop s.stop } ∷ []) ≡ true
  pair_upto_by true b c s h g = and_from _ _ h (alone_upto_by (is_lt (R s.start s.stop)) b s g)
  pair_upto_by false b c s h g = and_from _ _ h refl

  pub joined_upto : (b : A) (out : List (Stretch A)) (s : Stretch A) → starts_upto R b out ≡ true → is_le (R s.start b) ≡ true
      → starts_upto R b (joined R out s) ≡ true
  joined_upto b [] s h g = alone_upto_by (is_lt (R s.start s.stop)) b s g
  joined_upto b (c ∷ []) s h g = pair_upto_by (is_lt (R c.stop s.start)) b c s (and_first _ _ h) g
  joined_upto b (c ∷ d ∷ cs) s h g = and_from _ _ (and_first _ _ h)
      (joined_upto b (d ∷ cs) s (and_second (is_le (R c.start b)) _ h) g)

  -- ---- the sweep

  pub swept : (b : A) (out ss : List (Stretch A)) → is_canonical R out ≡ true → starts_upto R b out ≡ true → rising R b ss ≡ true
      → IsSweep R (fold (joined R) out ss) out ss
  swept b out [] h g f = record { canonical = h; same = λ k. sym (or-false _) }
  swept b out (s ∷ ss) h g f =
      let upto : starts_upto R s.start out ≡ true = upto_more b s.start out (and_first _ _ f) g in
      let rest : IsSweep R (fold (joined R) (joined R out s) ss) (joined R out s) ss =
      swept s.start (joined R out s) ss (joined_canonical out s h) (joined_upto s.start out s upto (line.le_itself o s.start))
      (and_second (is_le (R b s.start)) _ f) in
      record {
        canonical = rest.canonical;
        same = λ k. rest.same k ∙ (ap (λ x. x || has R ss k) (joined_has out s upto k) ∙ sym (or_assoc (has R out k) (holds R s k) (has R ss k)));
      }

  rises : (x : Stretch A) (xs : List (Stretch A)) → IsSortedBy (λ a b. is_lt (R a.start b.start)) (x ∷ xs) → rising R x.start xs ≡ true
  rises x [] h = refl
  rises x (y ∷ xs) h = and_from _ _ (line.le_from_not o y.start x.start (h 0 x (omega arith) (omega arith)))
      (rises y xs (λ k d l m. simp unary_clauses (simp unary_clauses at (h (suc k) d (omega arith) (omega arith)))))

  pub sweep : (xs : List (Stretch A)) → IsSortedBy (λ a b. is_lt (R a.start b.start)) xs → IsSweep R (fold (joined R) [] xs) [] xs
  sweep [] h = record { canonical = refl; same = λ k. refl }
  sweep (x ∷ xs) h = swept x.start [] (x ∷ xs) refl refl (and_from _ _ (line.le_itself o x.start) (rises x xs h))

  -- the same, as a loop leaves it that has taken all that a sort made of a list
  pub swept_all : (all xs ys out : List (Stretch A)) → IsSortedBy (λ a b. is_lt (R a.start b.start)) xs
      → ys ≡ xs → out ≡ fold (joined R) [] ys → IsPermutation all xs → IsSweep R out [] all
  swept_all all xs ys out h e d p =
      let done : IsSweep R (fold (joined R) [] xs) [] xs = sweep xs h in
      let whole : out ≡ fold (joined R) [] xs = d ∙ ap (fold (joined R) []) e in
      record {
        canonical = ap (is_canonical R) whole ∙ done.canonical;
        same = λ k. ap (λ l. has R l k) whole ∙ (done.same k ∙ sym (list_any-IsPermutation (λ s. holds R s k) all xs p));
      }
