-- Two sets, swept from end to end.
use Rattle.std.proofs.Common.{◌≡◌, ◌<◌, ◌≤◌, ◌+◌, ◌*◌, ◌++◌, ◌∷◌, ◌&&◌, ◌||◌, ◌⊎◌, List, [], Bool, true, false, not, refl, ap, arith, ◌∙◌, sym, subst, inl, inr}
use Rattle.std.proofs.lemmas.Bool.{and_from}
use Rattle.std.proofs.Common.{append-nil, append_assoc, true≢false}
use Rattle.std.specs.Prelude.{All, Contains, None, Option, Some, if◌then◌else◌, length, option_map}
use Rattle.std.specs.Cmp.{IsTotalOrder, tied_itself}
use Rattle.std.specs.List.{list_all}
use Rattle.std.specs.Option.{option_to_list}
use Rattle.std.specs.Ordering.{is_eq, is_le, is_lt}
use Rattle.std.specs.declared.cmp.Ordering.{Ordering}
use Rattle.std.specs.declared.cmp.Ordering.TheVariants.{Less, Equal, Greater}
use Rattle.std.proofs.lemmas.List.{length-append}
use Rattle.std.proofs.lemmas.List.Elements.{All-append, All-cons, All-contains_itself, All-head, All-nil, Contains-append_left, Contains-append_right}
use Rattle.key_spans.proofs.Line as line
use Rattle.key_spans.proofs.Line.{and_first, and_second, by_bool, false_true}
use Rattle.key_spans.proofs.Unique.{none_upto}
use Rattle.key_spans.specs.Internal.Ends.{IsSwept, after, ends, first_end, is_odd, least, turned}
use Rattle.key_spans.specs.Internal.Ends as spec
use Rattle.key_spans.specs.declared.sets.Operation.{Operation}
use Rattle.key_spans.specs.declared.sets.Operation.TheVariants as operation
use Rattle.key_spans.specs.Internal.Sets.{Stretch, has, is_canonical, is_past}

-- each is below the next one
abbrev pub is_rising : {A : Type 0} → (A → A → Ordering) → List A → Bool
is_rising R [] = true
is_rising R (a ∷ []) = true
is_rising R (a ∷ b ∷ bs) = is_lt (R a b) && is_rising R (b ∷ bs)

-- an odd number of ends is not above the point
abbrev pub inside : {A : Type 0} → (A → A → Ordering) → List A → A → Bool
inside R [] k = false
inside R (e ∷ es) k = if is_le (R e k) then not (inside R es k) else inside R es k

-- all are below the point
abbrev pub all_under : {A : Type 0} → (A → A → Ordering) → A → List A → Bool
all_under R p es = list_all (λ e. is_lt (R e p)) es

-- all are below the first of the others
abbrev pub is_over : {A : Type 0} → (A → A → Ordering) → (rest es : List A) → Bool
is_over R [] es = true
is_over R (q ∷ qs) es = all_under R q es

-- none of the others is below the point
abbrev pub is_low : {A : Type 0} → (A → A → Ordering) → A → List A → Bool
is_low R p [] = true
is_low R p (q ∷ qs) = is_le (R p q)

-- with the point at the end, or without it
abbrev pub grown : {A : Type 0} → Bool → A → List A → List A
grown true p es = es ++ p ∷ []
grown false p es = es

-- whether the first one is this place
abbrev pub is_here : {A : Type 0} → (A → A → Ordering) → A → List A → Bool
is_here R p [] = false
is_here R p (q ∷ qs) = is_eq (R q p)

pub none_kept : (op : Operation) → spec.keeps op false false ≡ false
none_kept operation.Union = refl
none_kept operation.Intersection = refl
none_kept operation.Difference = refl

not_not : (b : Bool) → not (not b) ≡ b
not_not true = refl
not_not false = refl

-- ---- how many there are

odd_more : {A : Type 0} (es : List A) (p : A) → is_odd (es ++ p ∷ []) ≡ not (is_odd es)
odd_more [] p = refl
odd_more (e ∷ es) p = ap not (odd_more es p)

flipped : (a b : Bool) → not (if a then not b else b) ≡ (if not a then not b else b)
flipped true b = not_not b
flipped false b = refl

odd_append : {A : Type 0} (es fs : List A) → is_odd (es ++ fs) ≡ (if is_odd es then not (is_odd fs) else is_odd fs)
odd_append [] fs = refl
odd_append (e ∷ es) fs = ap not (odd_append es fs) ∙ flipped (is_odd es) (is_odd fs)

alike : (a b : Bool) → (if a then not b else b) ≡ false → a ≡ b
alike true true h = refl
alike true false h = h
alike false true h = sym h
alike false false h = refl

-- of an even number
pub odd_both : {A : Type 0} (es fs : List A) → is_odd (es ++ fs) ≡ false → is_odd es ≡ is_odd fs
odd_both es fs h = alike (is_odd es) (is_odd fs) (sym (odd_append es fs) ∙ h)

pub even_ends : {A : Type 0} (ss : List (Stretch A)) → is_odd (ends ss) ≡ false
even_ends [] = refl
even_ends (s ∷ ss) = not_not (is_odd (ends ss)) ∙ even_ends ss

pub length_ends : {A : Type 0} (ss : List (Stretch A)) → length (ends ss) ≡ 2 * length ss
length_ends [] = refl
length_ends (s ∷ ss) = omega (arith, length_ends ss)

pub turned_odd : {A : Type 0} (kept : Bool) (p : A) (es : List A) → is_odd (turned kept p es) ≡ kept
turned_odd true p es = by (is_odd es) refl
  where
    by : (b : Bool) → is_odd es ≡ b → is_odd (if b then es else es ++ p ∷ []) ≡ true
    by true h = h
    by false h = odd_more es p ∙ ap not h
turned_odd false p es = by (is_odd es) refl
  where
    by : (b : Bool) → is_odd es ≡ b → is_odd (if b then es ++ p ∷ [] else es) ≡ false
    by true h = odd_more es p ∙ ap not h
    by false h = h

pub turned_grown : {A : Type 0} (kept : Bool) (p : A) (es : List A) → (d : Bool) × (turned kept p es ≡ grown d p es)
turned_grown true p es = by (is_odd es)
  where
    by : (b : Bool) → (d : Bool) × ((if b then es else es ++ p ∷ []) ≡ grown d p es)
    by true = (false, refl)
    by false = (true, refl)
turned_grown false p es = by (is_odd es)
  where
    by : (b : Bool) → (d : Bool) × ((if b then es ++ p ∷ [] else es) ≡ grown d p es)
    by true = (true, refl)
    by false = (false, refl)

grown_few : {A : Type 0} (d : Bool) (p : A) (es : List A) → length (grown d p es) ≤ length es + 1
grown_few true p es = omega (arith, length-append es (p ∷ []))
grown_few false p es = omega arith

grown_more : {A : Type 0} (d : Bool) (p : A) (es : List A) → length es ≤ length (grown d p es)
grown_more true p es = omega (arith, length-append es (p ∷ []))
grown_more false p es = omega arith

grown_all : {A : Type 0} (P : A → Type 0) (d : Bool) (p : A) (es : List A) → P p → All P es → All P (grown d p es)
grown_all P true p es h g = All-append P es (p ∷ []) g (All-cons P p [] h (All-nil P))
grown_all P false p es h g = g

-- ---- what is made so far: whole parts, and perhaps a start

ends_push : {A : Type 0} (zs : List (Stretch A)) (z : Stretch A) → ends (zs ++ z ∷ []) ≡ ends zs ++ z.start ∷ z.stop ∷ []
ends_push [] z = refl
ends_push (s ∷ zs) z = ap (λ l. s.start ∷ s.stop ∷ l) (ends_push zs z)

even_shut : {A : Type 0} (zs : List (Stretch A)) → is_odd (ends zs ++ []) ≡ false
even_shut zs = ap is_odd (append-nil (ends zs)) ∙ even_ends zs

odd_open : {A : Type 0} (zs : List (Stretch A)) (s : A) → is_odd (ends zs ++ s ∷ []) ≡ true
odd_open zs s = odd_more (ends zs) s ∙ ap not (even_ends zs)

pub open_at : {A : Type 0} (zs : List (Stretch A)) (p : A) → ends zs ++ p ∷ [] ≡ turned true p (ends zs ++ [])
open_at zs p = ap (λ l. l ++ p ∷ []) (sym (append-nil (ends zs)))
    ∙ ap (λ b. if b then ends zs ++ [] else (ends zs ++ []) ++ p ∷ []) (sym (even_shut zs))

pub shut_still : {A : Type 0} (zs : List (Stretch A)) (p : A) → ends zs ++ [] ≡ turned false p (ends zs ++ [])
shut_still zs p = ap (λ b. if b then (ends zs ++ []) ++ p ∷ [] else ends zs ++ []) (sym (even_shut zs))

pub open_still : {A : Type 0} (zs : List (Stretch A)) (s p : A) → ends zs ++ s ∷ [] ≡ turned true p (ends zs ++ s ∷ [])
open_still zs s p = ap (λ b. if b then ends zs ++ s ∷ [] else (ends zs ++ s ∷ []) ++ p ∷ []) (sym (odd_open zs s))

pub shut_at : {A : Type 0} (zs : List (Stretch A)) (s p : A) → ends (zs ++ record { start = s; stop = p } ∷ []) ++ []
    ≡ turned false p (ends zs ++ s ∷ [])
shut_at zs s p = append-nil (ends (zs ++ record { start = s; stop = p } ∷ []))
    ∙ (ends_push zs (record { start = s; stop = p }) ∙ (sym (append_assoc (ends zs) (s ∷ []) (p ∷ []))
    ∙ ap (λ b. if b then (ends zs ++ s ∷ []) ++ p ∷ [] else ends zs ++ s ∷ []) (sym (odd_open zs s))))

-- ---- what is inside

swapped : (a b x : Bool) → (if a then not (if b then not x else x) else (if b then not x else x))
    ≡ (if b then not (if a then not x else x) else (if a then not x else x))
swapped true true x = refl
swapped true false x = refl
swapped false true x = refl
swapped false false x = refl

module _ {A : Type 0} {R : A → A → Ordering} (o : IsTotalOrder R) where
  inside_more : (es : List A) (p k : A) → inside R (es ++ p ∷ []) k ≡ (if is_le (R p k) then not (inside R es k) else inside R es k)
  inside_more [] p k = refl
  inside_more (e ∷ es) p k = ap (λ x. if is_le (R e k) then not x else x) (inside_more es p k)
      ∙ swapped (is_le (R e k)) (is_le (R p k)) (inside R es k)

  grown_below : (d : Bool) (p k : A) (es : List A) → is_le (R p k) ≡ false → inside R (grown d p es) k ≡ inside R es k
  grown_below true p k es h = inside_more es p k ∙ ap (λ b. if b then not (inside R es k) else inside R es k) h
  grown_below false p k es h = refl

  under_inside : (p k : A) (es : List A) → all_under R p es ≡ true → is_le (R p k) ≡ true → inside R es k ≡ is_odd es
  under_inside p k [] h l = refl
  under_inside p k (e ∷ es) h l =
      let low : is_le (R e k) ≡ true = line.le_le o e p k (line.le_from_lt o e p (and_first _ _ h)) l in
      ap (λ b. if b then not (inside R es k) else inside R es k) low
      ∙ ap not (under_inside p k es (and_second (is_lt (R e p)) _ h) l)

  grown_above : (d : Bool) (p k : A) (es : List A) → all_under R p es ≡ true → is_le (R p k) ≡ true
      → inside R (grown d p es) k ≡ is_odd (grown d p es)
  grown_above true p k es h l = inside_more es p k ∙ (ap (λ b. if b then not (inside R es k) else inside R es k) l
      ∙ (ap not (under_inside p k es h l) ∙ sym (odd_more es p)))
  grown_above false p k es h l = under_inside p k es h l

  under_up : (p q : A) (es : List A) → all_under R p es ≡ true → is_lt (R p q) ≡ true → all_under R q es ≡ true
  under_up p q [] h l = refl
  under_up p q (e ∷ es) h l = and_from _ _ (line.lt_before_le o e p q (and_first _ _ h) (line.le_from_lt o p q l))
      (under_up p q es (and_second (is_lt (R e p)) _ h) l)

  under_more : (p q : A) (es : List A) → all_under R p es ≡ true → is_lt (R p q) ≡ true → all_under R q (es ++ p ∷ []) ≡ true
  under_more p q [] h l = and_from _ _ l refl
  under_more p q (e ∷ es) h l = and_from _ _ (line.lt_before_le o e p q (and_first _ _ h) (line.le_from_lt o p q l))
      (under_more p q es (and_second (is_lt (R e p)) _ h) l)

  grown_under : (d : Bool) (p q : A) (es : List A) → all_under R p es ≡ true → is_lt (R p q) ≡ true → all_under R q (grown d p es) ≡ true
  grown_under true p q es h l = under_more p q es h l
  grown_under false p q es h l = under_up p q es h l

  -- ---- ends that rise

  rising_tail : (e : A) (es : List A) → is_rising R (e ∷ es) ≡ true → is_rising R es ≡ true
  rising_tail e [] h = refl
  rising_tail e (f ∷ es) h = and_second (is_lt (R e f)) _ h

  rising_back : (es fs : List A) → is_rising R (es ++ fs) ≡ true → is_rising R fs ≡ true
  rising_back [] fs h = h
  rising_back (e ∷ es) fs h = rising_back es fs (rising_tail e (es ++ fs) h)

  first_under : (e q : A) (es rest : List A) → is_rising R (e ∷ es ++ q ∷ rest) ≡ true → is_lt (R e q) ≡ true
  first_under e q [] rest h = and_first _ _ h
  first_under e q (f ∷ es) rest h = line.lt_before_le o e f q (and_first _ _ h)
      (line.le_from_lt o f q (first_under f q es rest (rising_tail e (f ∷ es ++ q ∷ rest) h)))

  rising_under : (es rest : List A) (q : A) → is_rising R (es ++ q ∷ rest) ≡ true → all_under R q es ≡ true
  rising_under [] rest q h = refl
  rising_under (e ∷ es) rest q h = and_from _ _ (first_under e q es rest h) (rising_under es rest q (rising_tail e (es ++ q ∷ rest) h))

  rising_more : (es : List A) (p : A) → is_rising R es ≡ true → all_under R p es ≡ true → is_rising R (es ++ p ∷ []) ≡ true
  rising_more [] p h l = refl
  rising_more (e ∷ []) p h l = and_from _ _ (and_first _ _ l) refl
  rising_more (e ∷ f ∷ es) p h l = and_from _ _ (and_first _ _ h) (rising_more (f ∷ es) p (rising_tail e (f ∷ es) h) (and_second (is_lt (R e p)) _ l))

  grown_rising : (d : Bool) (p : A) (es : List A) → is_rising R es ≡ true → all_under R p es ≡ true → is_rising R (grown d p es) ≡ true
  grown_rising true p es h l = rising_more es p h l
  grown_rising false p es h l = h

  past_rising : (p : A) (ss : List (Stretch A)) → is_past R p ss ≡ is_rising R (p ∷ ends ss)
  past_rising p [] = refl
  past_rising p (s ∷ ss) = ap (λ b. is_lt (R p s.start) && (is_lt (R s.start s.stop) && b)) (past_rising s.stop ss)

  pub canonical_rising : (ss : List (Stretch A)) → is_canonical R ss ≡ is_rising R (ends ss)
  canonical_rising [] = refl
  canonical_rising (s ∷ ss) = ap (λ b. is_lt (R s.start s.stop) && b) (past_rising s.stop ss)

  in_one : (a b h i : Bool) → h ≡ i → (b ≡ true → a ≡ true) → (a ≡ true → b ≡ false → h ≡ false)
      → ((a && not b) || h) ≡ (if a then not (if b then not i else i) else (if b then not i else i))
  in_one true true h i e f g = e ∙ sym (not_not i)
  in_one true false h i e f g = sym (ap not (sym e ∙ g refl refl))
  in_one false true h i e f g = absurd (true≢false (sym (f refl)))
  in_one false false h i e f g = e

  past_inside : (p : A) (ss : List (Stretch A)) → is_past R p ss ≡ true → (k : A) → has R ss k ≡ inside R (ends ss) k
  past_inside p [] h k = refl
  past_inside p (s ∷ ss) h k =
      let full : is_lt (R s.start s.stop) ≡ true = and_first _ _ (and_second (is_lt (R p s.start)) _ h) in
      let rest : is_past R s.stop ss ≡ true = and_second (is_lt (R s.start s.stop)) _ (and_second (is_lt (R p s.start)) _ h) in
      ap (λ b. (is_le (R s.start k) && b) || has R ss k) (line.lt_le o k s.stop)
      ∙ in_one (is_le (R s.start k)) (is_le (R s.stop k)) (has R ss k) (inside R (ends ss) k) (past_inside s.stop ss rest k)
      (λ e. line.le_le o s.start s.stop k (line.le_from_lt o s.start s.stop full) e)
      (λ e f. none_upto o s.stop ss rest k (line.le_from_lt o k s.stop (line.lt_from_not o k s.stop f)))

  pub has_inside : (ss : List (Stretch A)) → is_canonical R ss ≡ true → (k : A) → has R ss k ≡ inside R (ends ss) k
  has_inside [] h k = refl
  has_inside (s ∷ ss) h k =
      let full : is_lt (R s.start s.stop) ≡ true = and_first _ _ h in
      let rest : is_past R s.stop ss ≡ true = and_second (is_lt (R s.start s.stop)) _ h in
      ap (λ b. (is_le (R s.start k) && b) || has R ss k) (line.lt_le o k s.stop)
      ∙ in_one (is_le (R s.start k)) (is_le (R s.stop k)) (has R ss k) (inside R (ends ss) k) (past_inside s.stop ss rest k)
      (λ e. line.le_le o s.start s.stop k (line.le_from_lt o s.start s.stop full) e)
      (λ e f. none_upto o s.stop ss rest k (line.le_from_lt o k s.stop (line.lt_from_not o k s.stop f)))

-- ---- one step of the sweep

-- what was passed of the ends of both sets, and what was made of it
pub record InOrder {A : Type 0} (R : A → A → Ordering) (keeps : Bool → Bool → Bool) (px py rx ry out : List A) : Type 0 where
  pub rising : is_rising R out ≡ true
  pub over_x : is_over R rx out ≡ true
  pub over_y : is_over R ry out ≡ true
  pub x_over : is_over R rx py ≡ true
  pub y_over : is_over R ry px ≡ true
  pub agree : (k : A) → inside R out k ≡ keeps (inside R px k) (inside R py k)

-- the ends of two sets, those that are to come, and those of what is made of the others
pub record IsMiddle {A : Type 0} (R : A → A → Ordering) (keeps : Bool → Bool → Bool) (xs ys rx ry out : List A) : Type 0 where
  pub px : List A
  pub py : List A
  pub whole_x : xs ≡ px ++ rx
  pub whole_y : ys ≡ py ++ ry
  pub taken : All (Contains (xs ++ ys)) out
  pub few : length out ≤ length px + length py
  pub state : is_odd out ≡ keeps (is_odd px) (is_odd py)
  pub ordered : is_rising R xs ≡ true → is_rising R ys ≡ true → InOrder R keeps px py rx ry out

over_none : {A : Type 0} (R : A → A → Ordering) (rest : List A) → is_over R rest [] ≡ true
over_none R [] = refl
over_none R (q ∷ qs) = refl

pub begin : {A : Type 0} (R : A → A → Ordering) (keeps : Bool → Bool → Bool) → keeps false false ≡ false → (xs ys : List A)
    → IsMiddle R keeps xs ys xs ys []
begin R keeps none xs ys = record {
  px = [];
  py = [];
  whole_x = refl;
  whole_y = refl;
  taken = All-nil (Contains (xs ++ ys));
  few = omega arith;
  state = sym none;
  ordered = λ h g. record {
    rising = refl;
    over_x = over_none R xs;
    over_y = over_none R ys;
    x_over = over_none R xs;
    y_over = over_none R ys;
    agree = λ k. sym none;
  };
}

eq_is : (r : Ordering) → is_eq r ≡ true → r ≡ Equal
eq_is Less h = absurd (true≢false (sym h))
eq_is Equal h = refl
eq_is Greater h = absurd (true≢false (sym h))

is_eq_of : (r : Ordering) → r ≡ Equal → is_eq r ≡ true
is_eq_of r h = ap is_eq h

none_is_some : {A C : Type 0} (p : A) → None ≡ Some p → C
none_is_some p h = absurd (true≢false (sym (ap (λ (o : Option _). elim o [ None ↦ false | Some x ↦ true ]) h)))

some_is : {A : Type 0} (d : A) (a p : A) → Some a ≡ Some p → a ≡ p
some_is d a p h = ap (λ (o : Option _). elim o [ None ↦ d | Some x ↦ x ]) h

contains_first : {A : Type 0} (p : A) (es : List A) → Contains (p ∷ es) p
contains_first p es = All-head (Contains (p ∷ es)) p es (All-contains_itself (p ∷ es))

module _ {A : Type 0} {R : A → A → Ordering} (o : IsTotalOrder R) (same : (a b : A) → R a b ≡ Equal → a ≡ b) where
  here_by : (p q : A) (px qs : List A) (b : Bool) → is_eq (R q p) ≡ b → px ++ q ∷ qs ≡ grown b p px ++ (if b then qs else q ∷ qs)
  here_by p q px qs true h = ap (λ x. px ++ x ∷ qs) (same q p (eq_is (R q p) h)) ∙ sym (append_assoc px (p ∷ []) qs)
  here_by p q px qs false h = refl

  after_whole : (p : A) (px rx : List A) → px ++ rx ≡ grown (is_here R p rx) p px ++ after R p rx
  after_whole p px [] = refl
  after_whole p px (q ∷ qs) = here_by p q px qs (is_eq (R q p)) refl

  next_over : (d : Bool) (p q : A) (qs es : List A) → is_rising R (q ∷ qs) ≡ true → q ≡ p → all_under R p es ≡ true
      → is_over R qs (grown d p es) ≡ true
  next_over d p q [] es h e u = refl
  next_over d p q (r ∷ qs) es h e u = grown_under o d p r es u (subst (λ x. is_lt (R x r) ≡ true) e (and_first _ _ h))

  not_here : (p q : A) → is_le (R p q) ≡ true → is_eq (R q p) ≡ false → is_lt (R p q) ≡ true
  not_here p q l h = line.lt_from_not o p q
      (by_bool (is_le (R q p)) (λ g. false_true (is_eq (R q p)) h (is_eq_of (R q p) (line.tied o q p g l))) (λ g. g))

  after_by : (d : Bool) (p q : A) (qs es : List A) (b : Bool) → is_eq (R q p) ≡ b → is_rising R (q ∷ qs) ≡ true → is_le (R p q) ≡ true
      → all_under R p es ≡ true → is_over R (if b then qs else q ∷ qs) (grown d p es) ≡ true
  after_by d p q qs es true h r l u = next_over d p q qs es r (same q p (eq_is (R q p) h)) u
  after_by d p q qs es false h r l u = grown_under o d p q es u (not_here p q l h)

  after_over : (d : Bool) (p : A) (rx es : List A) → is_rising R rx ≡ true → is_low R p rx ≡ true → all_under R p es ≡ true
      → is_over R (after R p rx) (grown d p es) ≡ true
  after_over d p [] es r l u = refl
  after_over d p (q ∷ qs) es r l u = after_by d p q qs es (is_eq (R q p)) refl r l u

  here_under : (p : A) (rx es : List A) → is_here R p rx ≡ true → is_over R rx es ≡ true → all_under R p es ≡ true
  here_under p [] es h u = absurd (true≢false (sym h))
  here_under p (q ∷ qs) es h u = subst (λ x. all_under R x es ≡ true) (same q p (eq_is (R q p) h)) u

  here_own : (p : A) (px rx : List A) → is_here R p rx ≡ true → is_rising R (px ++ rx) ≡ true → all_under R p px ≡ true
  here_own p px [] h r = absurd (true≢false (sym h))
  here_own p px (q ∷ qs) h r = subst (λ x. all_under R x px ≡ true) (same q p (eq_is (R q p) h)) (rising_under o px qs q r)

  here_in : (p : A) (px rx : List A) → is_here R p rx ≡ true → Contains (px ++ rx) p
  here_in p px [] h = absurd (true≢false (sym h))
  here_in p px (q ∷ qs) h = Contains-append_right px (q ∷ qs) p
      (subst (λ x. Contains (x ∷ qs) p) (sym (same q p (eq_is (R q p) h))) (contains_first p qs))

  -- the place is not above the first ends, and it is one of them
  pub record IsLeast (rx ry : List A) (p : A) : Type 0 where
    pub low_x : is_low R p rx ≡ true
    pub low_y : is_low R p ry ≡ true
    pub here : (is_here R p rx ≡ true) ⊎ (is_here R p ry ≡ true)

  is_itself : (a p : A) → a ≡ p → is_eq (R a p) ≡ true
  is_itself a p h = subst (λ x. is_eq (R a x) ≡ true) h (is_eq_of (R a a) (tied_itself o a))

  least_by : (a b p : A) (ks bs : List A) (t : Bool) → is_lt (R b a) ≡ t → (if t then b else a) ≡ p → IsLeast (a ∷ ks) (b ∷ bs) p
  least_by a b p ks bs true h e = record {
    low_x = subst (λ x. is_le (R x a) ≡ true) e (line.le_from_lt o b a h);
    low_y = subst (λ x. is_le (R x b) ≡ true) e (line.le_itself o b);
    here = inr (is_itself b p e);
  }
  least_by a b p ks bs false h e = record {
    low_x = subst (λ x. is_le (R x a) ≡ true) e (line.le_itself o a);
    low_y = subst (λ x. is_le (R x b) ≡ true) e (line.le_from_not o b a h);
    here = inl (is_itself a p e);
  }

  least_is : (rx ry : List A) (p : A) → least R (first_end rx) (first_end ry) ≡ Some p → IsLeast rx ry p
  least_is [] [] p h = none_is_some p h
  least_is [] (b ∷ bs) p h =
      let e : b ≡ p = some_is b b p h in
      record { low_x = refl; low_y = subst (λ x. is_le (R x b) ≡ true) e (line.le_itself o b); here = inr (is_itself b p e) }
  least_is (a ∷ ks) [] p h =
      let e : a ≡ p = some_is a a p h in
      record { low_x = subst (λ x. is_le (R x a) ≡ true) e (line.le_itself o a); low_y = refl; here = inl (is_itself a p e) }
  least_is (a ∷ ks) (b ∷ bs) p h = least_by a b p ks bs (is_lt (R b a)) refl (some_is a (if is_lt (R b a) then b else a) p h)

  module _ (keeps : Bool → Bool → Bool) where
    agree_by : (dx dy d : Bool) (px py out : List A) (p k : A) → all_under R p px ≡ true → all_under R p py ≡ true → all_under R p out ≡ true
        → is_odd (grown d p out) ≡ keeps (is_odd (grown dx p px)) (is_odd (grown dy p py))
        → inside R out k ≡ keeps (inside R px k) (inside R py k)
        → inside R (grown d p out) k ≡ keeps (inside R (grown dx p px) k) (inside R (grown dy p py) k)
    agree_by dx dy d px py out p k ux uy u state agree = by_bool (is_le (R p k))
        (λ l. grown_above o d p k out u l
        ∙ (state ∙ (λ i. keeps (sym (grown_above o dx p k px ux l) i) (sym (grown_above o dy p k py uy l) i))))
        (λ l. grown_below o d p k out l
        ∙ (agree ∙ (λ i. keeps (sym (grown_below o dx p k px l) i) (sym (grown_below o dy p k py l) i))))

    grown_order : (dx dy d : Bool) (px py rx ry out : List A) (p : A) → IsLeast rx ry p → is_rising R (px ++ rx) ≡ true
        → is_rising R (py ++ ry) ≡ true → is_odd (grown d p out) ≡ keeps (is_odd (grown dx p px)) (is_odd (grown dy p py))
        → InOrder R keeps px py rx ry out
        → InOrder R keeps (grown dx p px) (grown dy p py) (after R p rx) (after R p ry) (grown d p out)
    grown_order dx dy d px py rx ry out p t hx hy state m =
        let ux : all_under R p px ≡ true = elim t.here [ inl h ↦ here_own p px rx h hx | inr h ↦ here_under p ry px h m.y_over ] in
        let uy : all_under R p py ≡ true = elim t.here [ inl h ↦ here_under p rx py h m.x_over | inr h ↦ here_own p py ry h hy ] in
        let u : all_under R p out ≡ true = elim t.here [ inl h ↦ here_under p rx out h m.over_x | inr h ↦ here_under p ry out h m.over_y ] in
        let rising_x : is_rising R rx ≡ true = rising_back o px rx hx in
        let rising_y : is_rising R ry ≡ true = rising_back o py ry hy in
        record {
          rising = grown_rising o d p out m.rising u;
          over_x = after_over d p rx out rising_x t.low_x u;
          over_y = after_over d p ry out rising_y t.low_y u;
          x_over = after_over dy p rx py rising_x t.low_x uy;
          y_over = after_over dx p ry px rising_y t.low_y ux;
          agree = λ k. agree_by dx dy d px py out p k ux uy u state (m.agree k);
        }

    few_by : (d dx dy : Bool) (p : A) (px py out : List A) → (dx ≡ true) ⊎ (dy ≡ true) → length out ≤ length px + length py
        → length (grown d p out) ≤ length (grown dx p px) + length (grown dy p py)
    few_by d true dy p px py out h l = omega (arith, l, grown_few d p out, length-append px (p ∷ []), grown_more dy p py)
    few_by d false true p px py out h l = omega (arith, l, grown_few d p out, length-append py (p ∷ []))
    few_by d false false p px py out h l = absurd (elim h [ inl e ↦ true≢false (sym e) | inr e ↦ true≢false (sym e) ])

    pub step : (xs ys rx ry out : List A) (p : A) → is_odd xs ≡ false → is_odd ys ≡ false → IsMiddle R keeps xs ys rx ry out
        → least R (first_end rx) (first_end ry) ≡ Some p
        → IsMiddle R keeps xs ys (after R p rx) (after R p ry)
        (turned (keeps (is_odd (after R p rx)) (is_odd (after R p ry))) p out)
    step xs ys rx ry out p even_x even_y m h =
        let t : IsLeast rx ry p = least_is rx ry p h in
        let px : List A = grown (is_here R p rx) p m.px in
        let py : List A = grown (is_here R p ry) p m.py in
        let whole_x : xs ≡ px ++ after R p rx = m.whole_x ∙ after_whole p m.px rx in
        let whole_y : ys ≡ py ++ after R p ry = m.whole_y ∙ after_whole p m.py ry in
        let kept : Bool = keeps (is_odd (after R p rx)) (is_odd (after R p ry)) in
        let g = turned_grown kept p out in
        let odd_x : is_odd px ≡ is_odd (after R p rx) = odd_both px (after R p rx) (ap is_odd (sym whole_x) ∙ even_x) in
        let odd_y : is_odd py ≡ is_odd (after R p ry) = odd_both py (after R p ry) (ap is_odd (sym whole_y) ∙ even_y) in
        let state : is_odd (grown g.0 p out) ≡ keeps (is_odd px) (is_odd py) =
        ap is_odd (sym g.1) ∙ (turned_odd kept p out ∙ (λ i. keeps (sym odd_x i) (sym odd_y i))) in
        let found : Contains (xs ++ ys) p = elim t.here [
          | inl e ↦ Contains-append_left xs ys p (subst (λ l. Contains l p) (sym m.whole_x) (here_in p m.px rx e))
          | inr e ↦ Contains-append_right xs ys p (subst (λ l. Contains l p) (sym m.whole_y) (here_in p m.py ry e))
        ] in
        subst (IsMiddle R keeps xs ys (after R p rx) (after R p ry)) (sym g.1) (record {
          px = px;
          py = py;
          whole_x = whole_x;
          whole_y = whole_y;
          taken = grown_all (Contains (xs ++ ys)) g.0 p out found m.taken;
          few = few_by g.0 (is_here R p rx) (is_here R p ry) p m.px m.py out t.here m.few;
          state = state;
          ordered = λ hx hy. grown_order (is_here R p rx) (is_here R p ry) g.0 m.px m.py rx ry out p t
              (subst (λ l. is_rising R l ≡ true) m.whole_x hx) (subst (λ l. is_rising R l ≡ true) m.whole_y hy) state (m.ordered hx hy);
        })

    pub stepped : (xs ys rx ry out nx ny made : List A) (p : A) (ix iy kept : Bool) → is_odd xs ≡ false → is_odd ys ≡ false
        → IsMiddle R keeps xs ys rx ry out → least R (first_end rx) (first_end ry) ≡ Some p
        → nx ≡ after R p rx → ny ≡ after R p ry → ix ≡ is_odd nx → iy ≡ is_odd ny → kept ≡ keeps ix iy → made ≡ turned kept p out
        → IsMiddle R keeps xs ys nx ny made
    stepped xs ys rx ry out nx ny made p ix iy kept even_x even_y m h x y odd_x odd_y k e =
        let state : kept ≡ keeps (is_odd (after R p rx)) (is_odd (after R p ry)) =
        k ∙ (λ i. keeps ((odd_x ∙ ap is_odd x) i) ((odd_y ∙ ap is_odd y) i)) in
        subst (λ l. IsMiddle R keeps xs ys l ny made) (sym x) (subst (λ l. IsMiddle R keeps xs ys (after R p rx) l made) (sym y)
        (subst (IsMiddle R keeps xs ys (after R p rx) (after R p ry)) (sym (e ∙ ap (λ b. turned b p out) state))
        (step xs ys rx ry out p even_x even_y m h)))

    -- the sweep goes on where fewer ends are to come
    pub fewer : (rx ry : List A) (p : A) → least R (first_end rx) (first_end ry) ≡ Some p
        → length (after R p rx) + length (after R p ry) < length rx + length ry
    fewer rx ry p h = let t : IsLeast rx ry p = least_is rx ry p h in
        elim t.here [
          | inl e ↦ omega (arith, one_fewer p rx e, no_more p ry)
          | inr e ↦ omega (arith, one_fewer p ry e, no_more p rx)
        ]
      where
        fewer_by : (b : Bool) (q : A) (qs : List A) → length (if b then qs else q ∷ qs) ≤ length qs + 1
        fewer_by true q qs = omega arith
        fewer_by false q qs = omega arith

        gone_by : (b : Bool) (q : A) (qs : List A) → b ≡ true → length (if b then qs else q ∷ qs) < length (q ∷ qs)
        gone_by true q qs h = omega arith
        gone_by false q qs h = absurd (true≢false (sym h))

        no_more : (p : A) (es : List A) → length (after R p es) ≤ length es
        no_more p [] = omega arith
        no_more p (q ∷ qs) = omega (arith, fewer_by (is_eq (R q p)) q qs)

        one_fewer : (p : A) (es : List A) → is_here R p es ≡ true → length (after R p es) < length es
        one_fewer p [] h = absurd (true≢false (sym h))
        one_fewer p (q ∷ qs) h = gone_by (is_eq (R q p)) q qs h

    -- ---- the end

    none_left : (rx ry : List A) → least R (first_end rx) (first_end ry) ≡ None → (rx ≡ []) × (ry ≡ [])
    none_left [] [] h = (refl, refl)
    none_left [] (b ∷ bs) h = none_is_some b (sym h)
    none_left (a ∷ ks) [] h = none_is_some a (sym h)
    none_left (a ∷ ks) (b ∷ bs) h = none_is_some (if is_lt (R b a) then b else a) (sym h)

    open_by : (zs : List (Stretch A)) (left : List A) → is_odd (ends zs ++ left) ≡ false → length left ≤ 1 → left ≡ []
    open_by zs [] h l = refl
    open_by zs (e ∷ []) h l = absurd (true≢false (sym (ap not (even_ends zs)) ∙ (sym (odd_more (ends zs) e) ∙ h)))
    open_by zs (e ∷ f ∷ left) h l = absurd (omega (arith, l))

    pub left_one : {X : Type 0} (f : X → A) (o : Option X) → length (option_to_list (option_map f o)) ≤ 1
    left_one f None = omega arith
    left_one f (Some x) = omega arith

    pub swept : keeps false false ≡ false → (xs ys zs : List (Stretch A)) (rx ry left : List A)
        → IsMiddle R keeps (ends xs) (ends ys) rx ry (ends zs ++ left) → length left ≤ 1
        → least R (first_end rx) (first_end ry) ≡ None → IsSwept R keeps xs ys zs
    swept none xs ys zs rx ry left m one h =
        let done = none_left rx ry h in
        let all_x : ends xs ≡ m.px = m.whole_x ∙ (ap (λ l. m.px ++ l) done.0 ∙ append-nil m.px) in
        let all_y : ends ys ≡ m.py = m.whole_y ∙ (ap (λ l. m.py ++ l) done.1 ∙ append-nil m.py) in
        let even : is_odd (ends zs ++ left) ≡ false = m.state
        ∙ ((λ i. keeps ((ap is_odd (sym all_x) ∙ even_ends xs) i) ((ap is_odd (sym all_y) ∙ even_ends ys) i)) ∙ none) in
        let out : ends zs ++ left ≡ ends zs = ap (λ l. ends zs ++ l) (open_by zs left even one) ∙ append-nil (ends zs) in
        let order : is_canonical R xs ≡ true → is_canonical R ys ≡ true → InOrder R keeps m.px m.py rx ry (ends zs ++ left) =
        λ c d. m.ordered (sym (canonical_rising o xs) ∙ c) (sym (canonical_rising o ys) ∙ d) in
        let rising : is_canonical R xs ≡ true → is_canonical R ys ≡ true → is_canonical R zs ≡ true =
        λ c d. canonical_rising o zs ∙ (ap (is_rising R) (sym out) ∙ (order c d).rising) in
        record {
          canonical = rising;
          same = λ c d k. has_inside o zs (rising c d) k ∙ (ap (λ l. inside R l k) (sym out) ∙ ((order c d).agree k
              ∙ (λ i. keeps ((ap (λ l. inside R l k) (sym all_x) ∙ sym (has_inside o xs c k)) i)
              ((ap (λ l. inside R l k) (sym all_y) ∙ sym (has_inside o ys d k)) i))));
          ends_of_them = subst (All (Contains (ends xs ++ ends ys))) out m.taken;
          few = omega (arith, m.few, ap length out, ap length all_x, ap length all_y, length_ends xs, length_ends ys, length_ends zs);
        }
