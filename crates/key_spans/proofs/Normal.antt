-- The canonical list of any spans: they are put in order, and swept.
use Rattle.std.proofs.Common.{◌≡◌, ◌||◌, List, [], ◌∷◌, Bool, true, false, refl, ap, ◌∙◌}
use Rattle.std.proofs.lemmas.Bool.{and_from}
use Rattle.std.specs.Prelude.{if◌then◌else◌}
use Rattle.std.specs.Cmp.{IsTotalOrder}
use Rattle.std.specs.List.{fold}
use Rattle.std.specs.Ordering.{is_le}
use Rattle.std.specs.declared.cmp.Ordering.{Ordering}
use Rattle.key_spans.proofs.Line as line
use Rattle.key_spans.proofs.Line.{and_first, and_second}
use Rattle.key_spans.proofs.Sweeping.{IsSweep, rising, swept}
use Rattle.key_spans.specs.Internal.Sets.{has, holds, is_canonical}
use Rattle.key_spans.specs.Internal.Sets.{joined}
use Rattle.key_spans.specs.Internal.Sets.{Stretch}

abbrev pub insert : {A : Type 0} → (A → A → Ordering) → Stretch A → List (Stretch A) → List (Stretch A)
insert R s [] = s ∷ []
insert R s (t ∷ ts) = if is_le (R s.start t.start) then s ∷ t ∷ ts else t ∷ insert R s ts

abbrev pub ordered : {A : Type 0} → (A → A → Ordering) → List (Stretch A) → List (Stretch A)
ordered R [] = []
ordered R (s ∷ ss) = insert R s (ordered R ss)

abbrev pub normal : {A : Type 0} → (A → A → Ordering) → List (Stretch A) → List (Stretch A)
normal R ss = fold (joined R) [] (ordered R ss)

abbrev pub is_rising : {A : Type 0} → (A → A → Ordering) → List (Stretch A) → Bool
is_rising R [] = true
is_rising R (x ∷ xs) = rising R x.start xs

swap : (a b c : Bool) → (a || (b || c)) ≡ (b || (a || c))
swap true true c = refl
swap true false c = refl
swap false b c = refl

module _ {A : Type 0} {R : A → A → Ordering} (o : IsTotalOrder R) where
  insert_has_by : (b : Bool) (s t : Stretch A) (ts : List (Stretch A)) (k : A) → has R (insert R s ts) k ≡ (holds R s k || has R ts k)
      → has R (if b then s ∷ t ∷ ts else t ∷ insert R s ts) k ≡ (holds R s k || (holds R t k || has R ts k))
  insert_has_by true s t ts k e = refl
  insert_has_by false s t ts k e = ap (λ x. holds R t k || x) e ∙ swap (holds R t k) (holds R s k) (has R ts k)

  insert_has : (s : Stretch A) (ss : List (Stretch A)) (k : A) → has R (insert R s ss) k ≡ (holds R s k || has R ss k)
  insert_has s [] k = refl
  insert_has s (t ∷ ts) k = insert_has_by (is_le (R s.start t.start)) s t ts k (insert_has s ts k)

  ordered_has : (ss : List (Stretch A)) (k : A) → has R (ordered R ss) k ≡ has R ss k
  ordered_has [] k = refl
  ordered_has (s ∷ ss) k = insert_has s (ordered R ss) k ∙ ap (λ x. holds R s k || x) (ordered_has ss k)

  insert_rising_by : (x : Bool) (b : A) (s t : Stretch A) (ts : List (Stretch A)) → is_le (R s.start t.start) ≡ x
      → is_le (R b s.start) ≡ true → rising R b (t ∷ ts) ≡ true
      → (is_le (R t.start s.start) ≡ true → rising R t.start (insert R s ts) ≡ true)
      → rising R b (if x then s ∷ t ∷ ts else t ∷ insert R s ts) ≡ true
  insert_rising_by true b s t ts e h g f = and_from _ _ h (and_from _ _ e (and_second (is_le (R b t.start)) _ g))
  insert_rising_by false b s t ts e h g f = and_from _ _ (and_first _ _ g)
      (f (line.le_from_lt o t.start s.start (line.lt_from_not o t.start s.start e)))

  insert_rising : (b : A) (s : Stretch A) (ss : List (Stretch A)) → is_le (R b s.start) ≡ true → rising R b ss ≡ true
      → rising R b (insert R s ss) ≡ true
  insert_rising b s [] h g = and_from _ _ h refl
  insert_rising b s (t ∷ ts) h g = insert_rising_by (is_le (R s.start t.start)) b s t ts refl h g
      (λ u. insert_rising t.start s ts u (and_second (is_le (R b t.start)) _ g))

  insert_rises : (s : Stretch A) (ss : List (Stretch A)) → is_rising R ss ≡ true → is_rising R (insert R s ss) ≡ true
  insert_rises s [] h = refl
  insert_rises s (t ∷ ts) h = by_test (is_le (R s.start t.start)) refl
    where
      by_test : (x : Bool) → is_le (R s.start t.start) ≡ x → is_rising R (if x then s ∷ t ∷ ts else t ∷ insert R s ts) ≡ true
      by_test true e = and_from _ _ e h
      by_test false e = insert_rising t.start s ts (line.le_from_lt o t.start s.start (line.lt_from_not o t.start s.start e)) h

  pub ordered_rises : (ss : List (Stretch A)) → is_rising R (ordered R ss) ≡ true
  ordered_rises [] = refl
  ordered_rises (s ∷ ss) = insert_rises s (ordered R ss) (ordered_rises ss)

  from_rising : (xs : List (Stretch A)) → is_rising R xs ≡ true → IsSweep R (fold (joined R) [] xs) [] xs
  from_rising [] h = record { canonical = refl; same = λ k. refl }
  from_rising (x ∷ xs) h = swept o x.start [] (x ∷ xs) refl refl (and_from _ _ (line.le_itself o x.start) h)

  pub normal_canonical : (ss : List (Stretch A)) → is_canonical R (normal R ss) ≡ true
  normal_canonical ss = (from_rising (ordered R ss) (ordered_rises ss)).canonical

  pub normal_has : (ss : List (Stretch A)) (k : A) → has R (normal R ss) k ≡ has R ss k
  normal_has ss k = (from_rising (ordered R ss) (ordered_rises ss)).same k ∙ ordered_has ss k
