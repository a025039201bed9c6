-- Canonical lists with the same points are equal.
use Rattle.std.proofs.Common.{◌≡◌, ◌||◌, List, [], ◌∷◌, true, false, refl, ap, ◌∙◌, sym, subst, inl, inr}
use Rattle.std.proofs.lemmas.Bool.{and_from, and_left, and_right, or_left}
use Rattle.std.specs.Prelude.{⊤, All}
use Rattle.std.proofs.lemmas.List.Elements.{All-cons, All-nil, All-head, All-tail}
use Rattle.std.specs.Cmp.{IsTotalOrder}
use Rattle.std.specs.Ordering.{is_le, is_lt}
use Rattle.std.specs.declared.cmp.Ordering.{Ordering}
use Rattle.std.specs.declared.cmp.Ordering.TheVariants.{Equal}
use Rattle.key_spans.proofs.Line as line
use Rattle.key_spans.proofs.Line.{and_first, and_second, by_bool, false_true}
use Rattle.key_spans.proofs.IsPlaced.{IsPlaced}
use Rattle.key_spans.specs.Internal.Sets.{has, holds, is_canonical, is_past}
use Rattle.key_spans.specs.Internal.Sets.{Stretch}

module _ {A : Type 0} {R : A → A → Ordering} (o : IsTotalOrder R) where
  -- spans past p hold nothing up to p
  pub none_upto : (p : A) (ss : List (Stretch A)) → is_past R p ss ≡ true → (k : A) → is_le (R k p) ≡ true → has R ss k ≡ false
  none_upto p [] h k e = refl
  none_upto p (s ∷ ss) h k e =
      let above : is_lt (R p s.start) ≡ true = and_first _ _ h in
      let full : is_lt (R s.start s.stop) ≡ true = and_first _ _ (and_second (is_lt (R p s.start)) _ h) in
      let rest : is_past R s.stop ss ≡ true = and_second (is_lt (R s.start s.stop)) _ (and_second (is_lt (R p s.start)) _ h) in
      let below : is_lt (R k s.start) ≡ true = line.lt_after_le o k p s.start e above in
      let here : holds R s k ≡ false = and_left _ _ (line.not_back o k s.start below) in
      let there : has R ss k ≡ false = none_upto s.stop ss rest k
      (line.le_le o k s.start s.stop (line.le_from_lt o k s.start below) (line.le_from_lt o s.start s.stop full)) in
      λ i. here i || there i

  -- the same of what stands behind the first span of a canonical list
  pub tail_past : (s : Stretch A) (ss : List (Stretch A)) → is_canonical R (s ∷ ss) ≡ true → is_past R s.stop ss ≡ true
  tail_past s ss h = and_second (is_lt (R s.start s.stop)) _ h

  pub past_canonical : (p : A) (ss : List (Stretch A)) → is_past R p ss ≡ true → is_canonical R ss ≡ true
  past_canonical p [] h = refl
  past_canonical p (s ∷ ss) h = and_second (is_lt (R p s.start)) _ h

  -- its first start is its first point
  has_start : (s : Stretch A) (ss : List (Stretch A)) → is_canonical R (s ∷ ss) ≡ true → has R (s ∷ ss) s.start ≡ true
  has_start s ss h = or_left _ _ (and_from _ _ (line.le_itself o s.start) (and_first _ _ h))

  start_first : (s : Stretch A) (ss : List (Stretch A)) → is_canonical R (s ∷ ss) ≡ true → (k : A) → has R (s ∷ ss) k ≡ true
      → is_le (R s.start k) ≡ true
  start_first s ss h k m = by_bool (is_le (R s.start k)) (λ e. e) (λ e.
      let below : is_lt (R k s.start) ≡ true = line.lt_from_not o k s.start e in
      let there : has R ss k ≡ false = none_upto s.stop ss (tail_past s ss h) k
      (line.le_le o k s.start s.stop (line.le_from_lt o k s.start below) (line.le_from_lt o s.start s.stop (and_first _ _ h))) in
      false_true (has R (s ∷ ss) k) (λ i. and_left _ (is_lt (R k s.stop)) e i || there i) m)

  -- past the first stop only the rest counts
  rest_has : (s : Stretch A) (ss : List (Stretch A)) (k : A) → is_lt (R s.stop k) ≡ true → has R (s ∷ ss) k ≡ has R ss k
  rest_has s ss k h = ap (λ b. b || has R ss k) (and_right (is_le (R s.start k)) _ (line.not_lt o k s.stop (line.le_from_lt o s.stop k h)))

  same_at : ((a b : A) → R a b ≡ Equal → a ≡ b) → (a b : A) → is_le (R a b) ≡ true → is_le (R b a) ≡ true → a ≡ b
  same_at exact a b h k = exact a b (line.tied o a b h k)

  rest_same : (P : A → Type 0) (x y : Stretch A) (xs ys : List (Stretch A)) → is_canonical R (x ∷ xs) ≡ true → is_canonical R (y ∷ ys) ≡ true
      → x.stop ≡ y.stop → ((k : A) → P k → has R (x ∷ xs) k ≡ has R (y ∷ ys) k)
      → (k : A) → P k → has R xs k ≡ has R ys k
  rest_same P x y xs ys h g e same k p = by_bool (is_le (R k x.stop))
      (λ u. none_upto x.stop xs (tail_past x xs h) k u
      ∙ sym (none_upto y.stop ys (tail_past y ys g) k (subst (λ a. is_le (R k a) ≡ true) e u)))
      (λ u. let past : is_lt (R x.stop k) ≡ true = line.lt_from_not o x.stop k u in
      sym (rest_has x xs k past) ∙ (same k p ∙ rest_has y ys k (subst (λ a. is_lt (R a k) ≡ true) e past)))

  module _ (P : A → Type 0) (ends : A → A → Type 0) where
    -- a list with one point more
    one_more : (s : Stretch A) (ss : List (Stretch A)) → is_canonical R (s ∷ ss) ≡ true → IsPlaced R P ends s
        → ((k : A) → P k → false ≡ has R (s ∷ ss) k) → {C : Type 0} → C
    one_more s ss h p same = false_true (has R (s ∷ ss) s.start) (sym (same s.start p.start)) (has_start s ss h)

    -- of two lists with one start the second does not stop later
    stop_upto : (x y : Stretch A) (xs ys : List (Stretch A)) → is_canonical R (x ∷ xs) ≡ true → is_canonical R (y ∷ ys) ≡ true
        → IsPlaced R P ends x → IsPlaced R P ends y → x.start ≡ y.start
        → ((k : A) → P k → has R (x ∷ xs) k ≡ has R (y ∷ ys) k) → is_le (R y.stop x.stop) ≡ true
    stop_upto x y xs ys h g p q e same = elim p.stop [
      | inl at ↦ by_bool (is_le (R y.stop x.stop)) (λ u. u) (λ u.
          let later : is_lt (R x.stop y.stop) ≡ true = line.lt_from_not o x.stop y.stop u in
          let none : has R (x ∷ xs) x.stop ≡ false = λ i.
          and_right (is_le (R x.start x.stop)) _ (line.not_lt o x.stop x.stop (line.le_itself o x.stop)) i
          || none_upto x.stop xs (tail_past x xs h) x.stop (line.le_itself o x.stop) i in
          let begun : is_le (R y.start x.stop) ≡ true =
          subst (λ a. is_le (R a x.stop) ≡ true) e (line.le_from_lt o x.start x.stop (and_first _ _ h)) in
          let one : has R (y ∷ ys) x.stop ≡ true = or_left _ _ (and_from _ _ begun later) in
          false_true (has R (y ∷ ys) x.stop) (sym (same x.stop at) ∙ none) one)
      | inr at ↦ q.within x.stop (subst (λ a. ends a x.stop) e at)
    ]

    pub unique : ((a b : A) → R a b ≡ Equal → a ≡ b) → (xs ys : List (Stretch A)) → All (IsPlaced R P ends) xs → All (IsPlaced R P ends) ys
        → is_canonical R xs ≡ true → is_canonical R ys ≡ true → ((k : A) → P k → has R xs k ≡ has R ys k) → xs ≡ ys
    unique exact [] [] p q h g same = refl
    unique exact [] (y ∷ ys) p q h g same = one_more y ys g (All-head (IsPlaced R P ends) y ys q) same
    unique exact (x ∷ xs) [] p q h g same = one_more x xs h (All-head (IsPlaced R P ends) x xs p) (λ k u. sym (same k u))
    unique exact (x ∷ xs) (y ∷ ys) p q h g same =
        let px : IsPlaced R P ends x = All-head (IsPlaced R P ends) x xs p in
        let py : IsPlaced R P ends y = All-head (IsPlaced R P ends) y ys q in
        let start : x.start ≡ y.start = same_at exact x.start y.start
        (start_first x xs h y.start (same y.start py.start ∙ has_start y ys g))
        (start_first y ys g x.start (sym (same x.start px.start) ∙ has_start x xs h)) in
        let stop : x.stop ≡ y.stop = same_at exact x.stop y.stop
        (stop_upto y x ys xs g h py px (sym start) (λ k u. sym (same k u)))
        (stop_upto x y xs ys h g px py start same) in
        let rest : xs ≡ ys = unique exact xs ys (All-tail (IsPlaced R P ends) x xs p) (All-tail (IsPlaced R P ends) y ys q)
        (past_canonical x.stop xs (tail_past x xs h)) (past_canonical y.stop ys (tail_past y ys g))
        (rest_same P x y xs ys h g stop same) in
        λ i. record { start = start i; stop = stop i } ∷ rest i

  -- where each place counts
  every_placed : (xs : List (Stretch A)) → All (IsPlaced R (λ k. ⊤) (λ a e. ⊥)) xs
  every_placed [] = All-nil (IsPlaced R (λ k. ⊤) (λ a e. ⊥))
  every_placed (x ∷ xs) = All-cons (IsPlaced R (λ k. ⊤) (λ a e. ⊥)) x xs
      (record { start = tt; stop = inl tt; within = λ e u. absurd u }) (every_placed xs)

  pub unique_all : ((a b : A) → R a b ≡ Equal → a ≡ b) → (xs ys : List (Stretch A))
      → is_canonical R xs ≡ true → is_canonical R ys ≡ true → ((k : A) → has R xs k ≡ has R ys k) → xs ≡ ys
  unique_all exact xs ys h g same = unique (λ k. ⊤) (λ a e. ⊥) exact xs ys (every_placed xs) (every_placed ys) h g (λ k u. same k)
