-- Entries in order: where they are searched, and the bounds furthest up.
use Rattle.nodejs_semver.proofs.Common.{AllWithin, Bool, Bound, Equal, Greater, IsTotalOrder, Less, List, Ordering, Span, Unbounded}
use Rattle.nodejs_semver.proofs.Common.{VersionValue, [], alike_right, any_same, ap, ap₂, arith, cut_cmp, cut_total, false, get_or}
use Rattle.nodejs_semver.proofs.Common.{holds, if◌then◌else◌, is_eq, is_lt, is_past, is_past-down, length, length-append, list_any, list_any-append, lower_cut}
use Rattle.nodejs_semver.proofs.Common.{gt_lt, is_le, not, one_way, or-false, ordering_then, precedence, precedence_total, refl, subst, suc, sym, take, take_next, tied_itself, true}
use Rattle.nodejs_semver.proofs.Common.{upper_cut, zero, ℕ, ◌&&◌, ◌++◌, ◌+◌, ◌<◌, ◌||◌, ◌∙◌, ◌∷◌, ◌≡◌, ◌≤◌}
use Rattle.nodejs_semver.specs.Internal.Index.{AreEnds, AreInOrder, Entry, IsEnd, IsIndexOf, IsUpward, begins_upto, ends_below, entries_hold, is_further_up, is_of, is_upto, numbers_at, place_cmp}
use Rattle.std.proofs.lemmas.Cmp.{on_total, tied_back, then_total, upto}
use Rattle.std.proofs.lemmas.List.{get_or_default, Sorted.{IsPartitionedBy-leb, list_any-IsPermutation, ranks_by, searchable_from_sorted, sorted_far}}
use Rattle.std.specs.{List.Sorted.{IsPartitionedBy, IsPartitionPoint}, Ordering.ordering_index}
use Rattle.std.proofs.lemmas.List.{Folds.list_any_none, get_or-take, get_or_append_left, get_or_push, length-take}
use Rattle.std.specs.Prelude.{leb}
use Rattle.nodejs_semver.proofs.Common.{common_steps, Bor, Cut, and-true, passes, tells, None, Option, Some, accepts, not-true, not_if, option_map, option_to_list, better_kept, fold, wanted, all_accept, list_all-append, append-nil, append_assoc, flat_map-append, has_bound, map-append, span_of, spans_of, any_flat, bound_of, cond_both, is_release, lets_in, list_any-map, names, same_triple, IfSome, is_some}
use Rattle.nodejs_semver.specs.Internal.Candidates.{bare_release}
use Rattle.nodejs_semver.specs.Internal.Candidates as candidate
use Rattle.nodejs_semver.specs.{Ranges.Unions.says_all, Words.covers}
use Rattle.semver_core.proofs.Gate.{in_two_steps, same_triple_is}
use Rattle.nodejs_semver.specs.Internal.Index.{Indexed, all_entries, all_pass, entries_cover, named, lets_pass, named_entries, pre_entries}

pub place_total : IsTotalOrder place_cmp
place_total = then_total (on_total (λ (e : Entry). e.0) precedence_total)
    (on_total (λ (e : Entry). lower_cut e.1.lower) (cut_total precedence_total))

-- ---- the search

-- with the answers about the numbers and about the cuts
upto_by : (r s : Ordering) → (elim r [ Less ↦ true | Equal ↦ is_le s | Greater ↦ false ]) ≡ leb (ordering_index (ordering_then r s)) 1
upto_by r s = grind arith

-- those up to a bound of these numbers
pub parted : (n : VersionValue) (b : Bound VersionValue) (es : List Entry) → AreInOrder es → IsPartitionedBy (is_upto n (begins_upto b)) es
parted n b es h =
    let place : Entry = (n, record { lower = b; upper = Unbounded }) in
    subst (λ (p : Entry → Bool). IsPartitionedBy p es)
    (λ i e. sym (upto_by (precedence e.0 n) (cut_cmp precedence (lower_cut e.1.lower) (lower_cut b))) i)
    (IsPartitionedBy-leb (λ e. ordering_index (place_cmp e place)) es 1 (searchable_from_sorted place_total (λ e. e) es place h))

none_of_front : {A : Type 0} (p : A → Bool) (xs : List A) (m : ℕ) (d : A) → ((i : ℕ) → i < m → i < length xs → p (get_or xs i d) ≡ false)
    → list_any p (take m xs) ≡ false
none_of_front p xs m d h =
    list_any_none p (take m xs) (λ i e l. grind (arith, get_or-take m xs i e, get_or_default xs i e d, length-take m xs, h i))

-- an entry that does not come behind one of lesser numbers has lesser ones too
lesser_by : (e f n : VersionValue) (r s : Ordering) → precedence f e ≡ r → is_lt (ordering_then r s) ≡ false → precedence f n ≡ Less → precedence e n ≡ Less
lesser_by e f n r s i h k =
    let o = precedence_total in
    grind (arith, o.congr f e n, o.trans e f n, o.antisymm e f)

-- none up to an entry of lesser numbers is of these
none_of : (es : List Entry) (k : ℕ) (d : Entry) (n : VersionValue) (q : Entry → Bool) → AreInOrder es → k < length es
    → precedence (get_or es k d).0 n ≡ Less → list_any (λ e. is_of n e && q e) (take (k + 1) es) ≡ false
none_of es k d n q o l h = none_of_front (λ e. is_of n e && q e) es (k + 1) d (λ i a b.
    let e = get_or es i d in
    let f = get_or es k d in
    let up = sorted_far (λ (x y : Entry). is_lt (place_cmp x y)) (ranks_by place_total (λ (x : Entry). x)) es o i k d (omega arith) l in
    ap (λ r. is_eq r && q e) (lesser_by e.0 f.0 n (precedence f.0 e.0) _ refl up h))

pub equal_is : (r : Ordering) → is_eq r ≡ true → r ≡ Equal
equal_is r h = grind arith

less_is : (r : Ordering) (p : Bool) → (elim r [ Less ↦ true | Equal ↦ p | Greater ↦ false ]) ≡ true → is_eq r ≡ false → r ≡ Less
less_is r p u h = grind arith

-- the last of some entries is of these numbers, and so the bound furthest up is that of these numbers
of_last : (n : VersionValue) (q : Cut VersionValue → Bool) (es : List Entry) (k : ℕ) (d : Entry) (b : Bound VersionValue)
    → precedence (get_or es k d).0 n ≡ Equal → IsUpward q → IsEnd es k b
    → list_any (λ e. is_of n e && q (upper_cut e.1.upper)) (take (k + 1) es) ≡ q (upper_cut b)
of_last n q es k d b e u h = grind (arith, any_same, h q u d, alike_right, precedence_total)

-- of entries in order it is asked whether one of these numbers begins early enough and ends far enough up
module _ (n : VersionValue) (early : Entry → Bool) (q : Cut VersionValue → Bool) where
  abbrev pub asked : List Entry → Bool
  asked es = list_any (λ e. is_of n e && (early e && q (upper_cut e.1.upper))) es

  front : (es : List Entry) (p : ℕ) → AllWithin (λ e. is_upto n early e ≡ true) es 0 p
      → AllWithin (λ e. is_upto n early e ≡ false) es p (length es)
      → asked es ≡ list_any (λ e. is_of n e && q (upper_cut e.1.upper)) (take p es)
  front [] zero h k = refl
  front [] (suc p) h k = refl
  front (e ∷ es) zero h k =
      grind (
        arith,
        k 0 e,
        front es zero (λ i d a b. absurd (omega arith))
            (λ i d a b. k (suc i) d (omega arith) (omega arith)),
      )
  front (e ∷ es) (suc p) h k =
      grind (
        arith,
        h 0 e,
        front es p (λ i d a b. h (suc i) d (omega arith) (omega arith))
            (λ i d a b. k (suc i) d (omega arith) (omega arith)),
      )

  -- where the search ends: k is the place before
  module _ (es : List Entry) (p k : ℕ) (o : AreInOrder es) (l : p ≤ length es) (at : p ≡ k + 1)
      (point : IsPartitionPoint (λ e. is_upto n early e ≡ true) (λ e. is_upto n early e ≡ false) es p) where
    in_front : list_any (λ e. is_of n e && q (upper_cut e.1.upper)) (take p es)
        ≡ list_any (λ e. is_of n e && q (upper_cut e.1.upper)) (take (k + 1) es)
    in_front = cc

    pub found : (e : Entry) (b : Bound VersionValue) → e ≡ get_or es k e → is_eq (precedence e.0 n) ≡ true → IsUpward q → IsEnd es k b
        → q (upper_cut b) ≡ asked es
    found e b i s u h = sym (front es p point.0 point.1 ∙ in_front ∙ of_last n q es k e b (rw i at (equal_is _ s)) u h)

    pub found_other : (e : Entry) → e ≡ get_or es k e → is_eq (precedence e.0 n) ≡ false → false ≡ asked es
    found_other e i s = sym (front es p point.0 point.1 ∙ in_front
        ∙ none_of es k e n (λ x. q (upper_cut x.1.upper)) o (omega arith)
        (less_is (precedence (get_or es k e).0 n) (early (get_or es k e)) (point.0 k e (omega arith) (omega arith)) (rw i at s)))

  pub found_none : (es : List Entry) (p : ℕ) → p ≡ 0
      → IsPartitionPoint (λ e. is_upto n early e ≡ true) (λ e. is_upto n early e ≡ false) es p → false ≡ asked es
  found_none es p at point = grind (arith, front es p)

-- the tests of the two questions
pub up_past : (v : VersionValue) → IsUpward (λ c. not (is_past precedence c v))
up_past v c d h k = ap not (not_if _ _ (λ m. is_past-down precedence_total c d v h m) (not-true _ k))

pub up_far : (a : Cut VersionValue) → IsUpward (λ c. is_le (cut_cmp precedence a c))
up_far a c d h k = (tells (cut_cmp precedence a d)).0 ∙ ap not (upto (cut_total precedence_total) a c d
    (not-true _ (sym (tells (cut_cmp precedence a c)).0 ∙ k)) (gt_lt precedence_total c d ∙ h))

-- ---- the bounds furthest up

further : (b c : Bound VersionValue) (q : Cut VersionValue → Bool) → IsUpward q → is_further_up b c ≡ true
    → (q (upper_cut b) || q (upper_cut c)) ≡ q (upper_cut b)
further b c q u h = grind (arith, one_way, precedence_total, gt_lt, u)

not_further : (b c : Bound VersionValue) (q : Cut VersionValue → Bool) → IsUpward q → is_further_up b c ≡ false
    → (q (upper_cut b) || q (upper_cut c)) ≡ q (upper_cut c)
not_further b c q u h = grind (arith, gt_lt, precedence_total, u)

of_itself : (e : Entry) (q : Cut VersionValue → Bool) → (is_of e.0 e && q (upper_cut e.1.upper)) ≡ q (upper_cut e.1.upper)
of_itself e q = ap (λ r. is_eq r && q (upper_cut e.1.upper)) (tied_itself precedence_total e.0)

pub first_end : (es : List Entry) (i : ℕ) (f : Entry) → i ≡ 0 → i < length es → f ≡ get_or es i f → IsEnd es i f.1.upper
first_end es i f z l at = λ q u c. grind (arith, of_itself)

-- an entry of other numbers that does not come before is of greater ones
before : (e f : VersionValue) (r s : Ordering) → precedence f e ≡ r → is_lt (ordering_then r s) ≡ false → is_eq r ≡ false → precedence e f ≡ Less
before e f r s i h k = grind (arith, precedence_total.antisymm)

-- the bound furthest up, of an entry and a next one of the same numbers or of others
module _ (es : List Entry) (k : ℕ) (e f : Entry) (b : Bound VersionValue) (q : Cut VersionValue → Bool) (u : IsUpward q) (o : AreInOrder es)
    (l : k + 1 < length es) (at : e ≡ get_or es k e) (next : f ≡ get_or es (k + 1) e) (m : IsEnd es k b) where
  abbrev own : Entry → Bool
  own x = is_of f.0 x && q (upper_cut x.1.upper)

  no_front : is_eq (precedence f.0 e.0) ≡ false → list_any own (take (k + 1) es) ≡ false
  no_front i =
      let up = sorted_far (λ (x y : Entry). is_lt (place_cmp x y)) (ranks_by place_total (λ (x : Entry). x)) es o k (k + 1) e (omega arith) l in
      let less = before e.0 f.0 (precedence f.0 e.0) (cut_cmp precedence (lower_cut f.1.lower) (lower_cut e.1.lower)) refl (rw (sym next, sym at) at up) i in
      none_of es k e f.0 (λ x. q (upper_cut x.1.upper)) o (omega arith) (rw at at less)

  of_front : is_eq (precedence f.0 e.0) ≡ true → list_any own (take (k + 1) es) ≡ q (upper_cut b)
  of_front i = of_last f.0 q es k e b (rw at at (tied_back precedence_total f.0 e.0 (equal_is _ i))) u m

  next_by : (s t : Bool) → is_of e.0 f ≡ s → is_further_up b f.1.upper ≡ t
      → q (upper_cut (if s && t then b else f.1.upper)) ≡ (list_any own (take (k + 1) es) || own f)
  next_by s t i j = grind (arith, of_front, no_front, of_itself f q, further b f.1.upper q u, not_further b f.1.upper q u)

pub next_end : (es : List Entry) (k i : ℕ) (e f : Entry) (b : Bound VersionValue) (t : Bool) → AreInOrder es → i ≡ k + 1 → i < length es
    → e ≡ get_or es k e → f ≡ get_or es i f → IsEnd es k b → ends_below f e.0 b ≡ t → IsEnd es i (if t then b else f.1.upper)
next_end es k i e f b t o at l is next h j = λ q u c.
    let next_is : f ≡ get_or es (k + 1) f = rw at at next in
    let l_is : k + 1 < length es = omega (arith, at) in
    let own : Entry → Bool = λ x. is_of f.0 x && q (upper_cut x.1.upper) in
    ap (λ (s : Bool). q (upper_cut (if s then b else f.1.upper))) (sym j)
    ∙ next_by es k e f b q u o l_is is (next_is ∙ get_or_default es (k + 1) f e l_is) h _ _ refl refl
    ∙ sym (ap (λ xs. list_any own xs) (take_next es (k + 1) f l_is next_is)
    ∙ list_any-append own (take (k + 1) es) (f ∷ []) ∙ ap (λ p. list_any own (take (k + 1) es) || p) (or-false (own f)))
    ∙ ap (λ (m : ℕ). list_any own (take (m + 1) es)) (sym at)
    ∙ ap (λ (x : Entry). list_any (λ y. is_of x.0 y && q (upper_cut y.1.upper)) (take (i + 1) es)) (next ∙ get_or_default es i f c l)

-- one more
pub ends_more : {V : Type 0} (value : V → VersionValue) (es : List Entry) (bs new : List (Bor (Bound V))) (b : Bor (Bound V)) (i : ℕ)
    → length bs ≡ i → new ≡ bs ++ b ∷ [] → AreEnds value es bs → IsEnd es i (bound_of value b.now) → AreEnds value es new
ends_more value es bs new b i n at h m =
    λ k d l. grind (arith, length-append, get_or_append_left, get_or_push, h k d)

-- ---- what the entries of spans hold

same_numbers : (w v : VersionValue) → is_eq (precedence (bare_release w) (bare_release v)) ≡ same_triple w v
same_numbers w v = grind (arith, in_two_steps, same_triple_is)

abbrev held : VersionValue → VersionValue → Entry → Bool
held n v e = is_of n e && holds precedence e.1 v

hold_at : (s : Span VersionValue) (w v : VersionValue) → list_any (held (bare_release v) v) (option_to_list (option_map (λ n. (n, s)) (numbers_at w)))
    ≡ ((not (is_release w) && same_triple w v) && holds precedence s v)
hold_at s w v = cond_both (is_release w) None (Some (bare_release w))
    (λ o. list_any (held (bare_release v) v) (option_to_list (option_map (λ n. (n, s)) o)) ≡ ((not (is_release w) && same_triple w v) && holds precedence s v))
    (λ r. rw r refl)
    (λ r. or-false (held (bare_release v) v (bare_release w, s))
    ∙ ap₂ (λ p q. (not p && q) && holds precedence s v) (sym r) (same_numbers w v))

hold_named : (s : Span VersionValue) (b : Bound VersionValue) (v : VersionValue)
    → list_any (held (bare_release v) v) (named_entries s b) ≡ (names b v && holds precedence s v)
hold_named s b v = grind (arith, hold_at)

gathered : (r p q h : Bool) → r ≡ false → ((p && h) || (q && h)) ≡ (h && (false || (r || (p || q))))
gathered r p q h e = grind arith

release_hold : (v : VersionValue) (ss : List (Span VersionValue)) → is_release v ≡ true → entries_hold (all_entries ss) candidate.zero v ≡ accepts ss v false
release_hold v ss r = list_any-map (held candidate.zero v) (λ s. (candidate.zero, s)) ss ∙ any_same _ _ (λ s. rw r (sym (and-true (holds precedence s v)))) ss

pre_hold : (v : VersionValue) (ss : List (Span VersionValue)) → is_release v ≡ false → entries_hold (pre_entries ss) (bare_release v) v ≡ accepts ss v false
pre_hold v ss r = any_flat (held (bare_release v) v) (λ s. named_entries s s.lower ++ named_entries s s.upper) ss
    ∙ any_same _ _ (λ s. list_any-append (held (bare_release v) v) (named_entries s s.lower) (named_entries s s.upper)
    ∙ ap₂ (λ p q. p || q) (hold_named s s.lower v) (hold_named s s.upper v) ∙ gathered (is_release v) (names s.lower v) (names s.upper v) (holds precedence s v) r) ss

-- the entries of one more
pub entries_further : {V : Type 0} (value : V → VersionValue) (xs : List (Span V)) (i : ℕ) (x : Span V) (rs ps new more : List Entry)
    → i < length xs → x ≡ get_or xs i x → rs ≡ all_entries (spans_of value (take i xs)) → ps ≡ pre_entries (spans_of value (take i xs))
    → new ≡ rs ++ (candidate.zero, span_of value x) ∷ []
    → more ≡ (ps ++ named_entries (span_of value x) (bound_of value x.lower)) ++ named_entries (span_of value x) (bound_of value x.upper)
    → (new ≡ all_entries (spans_of value (take (i + 1) xs))) × (more ≡ pre_entries (spans_of value (take (i + 1) xs)))
entries_further value xs i x rs ps new more l at h k n m =
    let next = take_next xs i x l at in
    grind (arith, common_steps, map-append, flat_map-append, append_assoc, append-nil, next)

pub passes_all : (ss : List (Span VersionValue)) (i : Indexed) → IsIndexOf ss i → (v : VersionValue) → lets_pass i v ≡ accepts ss v false
passes_all ss i h v = grind (arith, list_any-IsPermutation, release_hold, pre_hold)

-- ---- what one of the spans says all of

-- the bound has a pre-release of these numbers
abbrev has_numbers : VersionValue → Bound VersionValue → Bool
has_numbers n b = elim (named b) [ None ↦ false | Some m ↦ is_eq (precedence m n) ]

abbrev numbers_of : VersionValue → Span VersionValue → Bool
numbers_of n s = has_numbers n s.lower || has_numbers n s.upper

cover_named : (s t : Span VersionValue) (n : VersionValue) (o : Option VersionValue)
    → list_any (λ e. is_of n e && covers precedence e.1 t) (option_to_list (option_map (λ m. (m, s)) o))
    ≡ ((elim o [ None ↦ false | Some m ↦ is_eq (precedence m n) ]) && covers precedence s t)
cover_named s t n None = refl
cover_named s t n (Some m) = or-false _

names_at : (x w n : VersionValue) → precedence (bare_release w) n ≡ Equal
    → (not (is_release x) && same_triple x w) ≡ (elim (numbers_at x) [ None ↦ false | Some m ↦ is_eq (precedence m n) ])
names_at x w n e =
    let tied = alike_right precedence_total (bare_release w) n (bare_release x) e in
    grind (arith, same_numbers x w, tied)

names_is : (b : Bound VersionValue) (w n : VersionValue) → precedence (bare_release w) n ≡ Equal → names b w ≡ has_numbers n b
names_is b w n e = grind (arith, names_at)

-- a version of a bound is let in by what has its numbers, and a release by all
kept_out : (s : Span VersionValue) (b : Bound VersionValue) (n m : VersionValue) → named b ≡ Some m → precedence m n ≡ Equal
    → passes (λ w. not (lets_in s w)) b ≡ not (numbers_of n s)
kept_out s b n m h e = grind (arith, names_is)

let_in : (s : Span VersionValue) (b : Bound VersionValue) → named b ≡ None → passes (λ w. not (lets_in s w)) b ≡ false
let_in s b h = grind arith

either_covers : (p q c : Bool) → ((p && c) || (q && c)) ≡ (c && not (not (p || q)))
either_covers p q c = grind arith

-- the three ways in which t's bounds may have numbers
module _ (t : Span VersionValue) (ss : List (Span VersionValue)) (i : Indexed) (h : IsIndexOf ss i) where
  among : (n : VersionValue) → ((s : Span VersionValue) → has_bound (λ w. not (lets_in s w)) t ≡ not (numbers_of n s))
      → entries_cover i.1 n t ≡ list_any (λ s. says_all s t) ss
  among n k = sym (list_any-IsPermutation (λ (e : Entry). is_of n e && covers precedence e.1 t) _ i.1 h.1)
      ∙ any_flat (λ (e : Entry). is_of n e && covers precedence e.1 t) (λ s. named_entries s s.lower ++ named_entries s s.upper) ss
      ∙ any_same _ _ (λ s. list_any-append (λ (e : Entry). is_of n e && covers precedence e.1 t) (named_entries s s.lower) (named_entries s s.upper)
      ∙ ap₂ (λ p q. p || q) (cover_named s t n (named s.lower)) (cover_named s t n (named s.upper))
      ∙ either_covers (has_numbers n s.lower) (has_numbers n s.upper) (covers precedence s t)
      ∙ ap (λ q. covers precedence s t && not q) (sym (k s))) ss

  pub say_plain : named t.lower ≡ None → named t.upper ≡ None → entries_cover i.0 candidate.zero t ≡ list_any (λ s. says_all s t) ss
  say_plain p q = sym (list_any-IsPermutation (λ (e : Entry). is_of candidate.zero e && covers precedence e.1 t) _ i.0 h.0)
      ∙ list_any-map (λ (e : Entry). is_of candidate.zero e && covers precedence e.1 t) (λ s. (candidate.zero, s)) ss
      ∙ any_same _ _ (λ s. sym (and-true (covers precedence s t))
      ∙ ap (λ a. covers precedence s t && not a) (sym (ap₂ (λ a b. a || b) (let_in s t.lower p) (let_in s t.upper q)))) ss

  -- the bounds have numbers that tie with n, one of them or both
  pub say_named : (n : VersionValue) (l u : Option VersionValue) → named t.lower ≡ l → named t.upper ≡ u → (is_some l || is_some u) ≡ true
      → IfSome l (λ m. precedence m n ≡ Equal) → IfSome u (λ m. precedence m n ≡ Equal) → entries_cover i.1 n t ≡ list_any (λ s. says_all s t) ss
  say_named n l u p q some h k =
      among n (λ s. grind (arith, kept_out s t.lower n, kept_out s t.upper n, let_in s t.lower, let_in s t.upper))

-- the index of one more list
pub all_further : (is new : List Indexed) (rs : List (List (Span VersionValue))) (k : ℕ) (r : List (Span VersionValue)) (i : Indexed) (v : VersionValue)
    → k < length rs → r ≡ get_or rs k r → new ≡ is ++ i ∷ [] → all_pass is v ≡ all_accept (take k rs) v → lets_pass i v ≡ accepts r v false
    → all_pass new v ≡ all_accept (take (k + 1) rs) v
all_further is new rs k r i v l at n h m = grind (arith, list_all-append, take_next rs k r l at)

-- a search over the same lists
pub search_same : {W : Type 0} (value : W → VersionValue) (copies copies' : Bool) (ks ks' : List (List (Span VersionValue))) (ls ls' : List (Span W))
    (xs : List VersionValue) (best : Option VersionValue) → copies ≡ copies' → ks ≡ ks' → ls ≡ ls'
    → best ≡ fold (better_kept copies (wanted ks (spans_of value ls))) None xs → best ≡ fold (better_kept copies' (wanted ks' (spans_of value ls'))) None xs
search_same value copies copies' ks ks' ls ls' xs best c k l h = grind arith
