-- The sweep keeps the places of spans.
use Rattle.std.proofs.Common.{◌≡◌, List, [], ◌∷◌, Bool, true, false, refl, inl, inr}
use Rattle.std.proofs.lemmas.Bool.{and_from}
use Rattle.std.specs.Prelude.{◌↔◌, All, if◌then◌else◌}
use Rattle.std.proofs.lemmas.List.Elements.{All-cons, All-head, All-nil, All-tail}
use Rattle.std.specs.Cmp.{IsTotalOrder}
use Rattle.std.specs.List.{fold}
use Rattle.std.specs.Ordering.{is_le, is_lt}
use Rattle.std.specs.declared.cmp.Ordering.{Ordering}
use Rattle.key_spans.proofs.Line as line
use Rattle.key_spans.proofs.Line.{and_first, and_second}
use Rattle.key_spans.proofs.Normal.{insert, is_rising, normal, ordered, ordered_rises}
use Rattle.key_spans.proofs.Sweeping.{joined_upto, rising, starts_upto, upto_more}
use Rattle.key_spans.proofs.IsPlaced.{IsParted, IsPlaced}
use Rattle.key_spans.specs.Internal.Sets.{alone, joined, later}
use Rattle.key_spans.specs.Internal.Sets.{Stretch}

module _ {A : Type 0} {R : A → A → Ordering} (o : IsTotalOrder R) (P : A → Type 0) (ends : A → A → Type 0) (parted : IsParted R P ends) where
  abbrev Placed : Stretch A → Type 0
  Placed = IsPlaced R P ends

  -- if it is not empty
  abbrev Fit : Stretch A → Type 0
  Fit s = is_lt (R s.start s.stop) ≡ true → Placed s

  alone_placed_by : (t : Bool) (s : Stretch A) → is_lt (R s.start s.stop) ≡ t → Fit s → All Placed (if t then s ∷ [] else [])
  alone_placed_by true s e p = All-cons Placed s [] (p e) (All-nil Placed)
  alone_placed_by false s e p = All-nil Placed

  later_placed_by : (t : Bool) (c s : Stretch A) → is_lt (R c.stop s.stop) ≡ t → is_lt (R c.stop s.start) ≡ false → is_le (R c.start s.start) ≡ true → Placed c → Fit s
      → Placed (record { start = c.start; stop = if t then s.stop else c.stop })
  later_placed_by false c s l h g p q = p
  later_placed_by true c s l h g p fit =
      let q : Placed s = fit (line.lt_after_le o s.start c.stop s.stop (line.le_from_not o c.stop s.start h) l) in
      let meets : is_le (R s.start c.stop) ≡ true = line.le_from_not o c.stop s.start h in
      let one : (e : A) → (ends c.start e ↔ ends s.start e) = λ e. parted.same c.start s.start e p.start q.start g
      (λ d u. line.le_le o s.start c.stop d meets (p.within d u)) in
      record {
        start = p.start;
        stop = elim q.stop [ inl u ↦ inl u | inr u ↦ inr ((one s.stop).1 u) ];
        within = λ e u. q.within e ((one e).0 u);
      }

  pair_placed_by : (t : Bool) (c s : Stretch A) → is_lt (R c.stop s.start) ≡ t → is_le (R c.start s.start) ≡ true → Placed c → Fit s
      → All Placed (if t then c ∷ alone R s else record { start = c.start; stop = later R c.stop s.stop } ∷ [])
  pair_placed_by true c s h g p q = All-cons Placed c (alone R s) p (alone_placed_by (is_lt (R s.start s.stop)) s refl q)
  pair_placed_by false c s h g p q = All-cons Placed _ [] (later_placed_by (is_lt (R c.stop s.stop)) c s refl h g p q) (All-nil Placed)

  joined_placed : (out : List (Stretch A)) (s : Stretch A) → starts_upto R s.start out ≡ true → All Placed out → Fit s
      → All Placed (joined R out s)
  joined_placed [] s h p q = alone_placed_by (is_lt (R s.start s.stop)) s refl q
  joined_placed (c ∷ []) s h p q = pair_placed_by (is_lt (R c.stop s.start)) c s refl (and_first _ _ h) (All-head Placed c [] p) q
  joined_placed (c ∷ d ∷ cs) s h p q = All-cons Placed c (joined R (d ∷ cs) s) (All-head Placed c (d ∷ cs) p)
      (joined_placed (d ∷ cs) s (and_second (is_le (R c.start s.start)) _ h) (All-tail Placed c (d ∷ cs) p) q)

  swept_placed : (b : A) (out ss : List (Stretch A)) → starts_upto R b out ≡ true → rising R b ss ≡ true → All Placed out → All Fit ss
      → All Placed (fold (joined R) out ss)
  swept_placed b out [] g f p q = p
  swept_placed b out (s ∷ ss) g f p q =
      let upto : starts_upto R s.start out ≡ true = upto_more o b s.start out (and_first _ _ f) g in
      swept_placed s.start (joined R out s) ss (joined_upto o s.start out s upto (line.le_itself o s.start))
      (and_second (is_le (R b s.start)) _ f) (joined_placed out s upto p (All-head Fit s ss q)) (All-tail Fit s ss q)

  insert_fit_by : (b : Bool) (s t : Stretch A) (ts : List (Stretch A)) → Fit s → All Fit (t ∷ ts) → All Fit (insert R s ts)
      → All Fit (if b then s ∷ t ∷ ts else t ∷ insert R s ts)
  insert_fit_by true s t ts p q f = All-cons Fit s (t ∷ ts) p q
  insert_fit_by false s t ts p q f = All-cons Fit t (insert R s ts) (All-head Fit t ts q) f

  insert_fit : (s : Stretch A) (ss : List (Stretch A)) → Fit s → All Fit ss → All Fit (insert R s ss)
  insert_fit s [] p q = All-cons Fit s [] p (All-nil Fit)
  insert_fit s (t ∷ ts) p q = insert_fit_by (is_le (R s.start t.start)) s t ts p q (insert_fit s ts p (All-tail Fit t ts q))

  ordered_fit : (ss : List (Stretch A)) → All Fit ss → All Fit (ordered R ss)
  ordered_fit [] q = All-nil Fit
  ordered_fit (s ∷ ss) q = insert_fit s (ordered R ss) (All-head Fit s ss q) (ordered_fit ss (All-tail Fit s ss q))

  sweep_placed : (xs : List (Stretch A)) → is_rising R xs ≡ true → All Fit xs → All Placed (fold (joined R) [] xs)
  sweep_placed [] h p = All-nil Placed
  sweep_placed (x ∷ xs) h p = swept_placed x.start [] (x ∷ xs) refl (and_from _ _ (line.le_itself o x.start) h) (All-nil Placed) p

  pub normal_placed : (ss : List (Stretch A)) → All Fit ss → All Placed (normal R ss)
  normal_placed ss p = sweep_placed (ordered R ss) (ordered_rises o ss) (ordered_fit ss p)
