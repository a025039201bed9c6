-- Sorted lists of spans with their ends: one list for one set of versions.
use Rattle.std.proofs.Common.{ℕ, ◌≡◌, ◌++◌, ◌∷◌, ◌&&◌, ◌||◌, List, [], Bool, true, false, refl, ap, ◌∙◌, sym, subst, map}
use Rattle.std.proofs.lemmas.Bool.{and_from, not-true}
use Rattle.std.proofs.Math.Bool.{and-true}
use Rattle.std.specs.Prelude.{All}
use Rattle.std.proofs.lemmas.List.Elements.{All-cons, All-head, All-map, All-nil, All-tail}
use Rattle.std.proofs.lemmas.List.Folds.{list_any-append}
use Rattle.std.specs.Cmp.Lexicographic.{nat_list_cmp_total, slice_cmp}
use Rattle.std.specs.Ordering.{is_lt, nat_cmp}
use Rattle.semver_core.specs.Keys.{key}
use Rattle.semver_core.specs.Values.Versions.{IsVersion, VersionValue, is_release}
use Rattle.key_spans.specs.Internal.Pieces.{Piece, PieceEnds, all_flagged, are_sorted, flagged, in_piece, in_pieces, is_piece_behind, is_some_piece, piece, pieces}
use Rattle.key_spans.specs.Internal.Sets.{Stretch, has, holds, is_canonical, is_past}
use Rattle.key_spans.specs.Spans.{HasEnds, bytes, in_spans, is_sorted}
use Rattle.key_spans.specs.declared.KeySpan.{KeySpan}
use Rattle.key_spans.proofs.Bytes.{same_bytes}
use Rattle.key_spans.proofs.Canonical.{AnyPlaced, PrePlaced, ReleasePlaced, any_placed, false_not_true, own_ends, own_three, pre_placed, release_placed}
use Rattle.key_spans.proofs.Keys.{key_end, le, lt}
use Rattle.key_spans.proofs.Line as line
use Rattle.key_spans.proofs.Line.{and_first, and_second, by_bool, false_true}
use Rattle.key_spans.proofs.OneList.{IsAny, IsKeyOf, IsRelease, LastEnd}
use Rattle.key_spans.proofs.OnePreList.{Ends, IsPreKey, first_key, inside, is_inside, last_key}
use Rattle.key_spans.proofs.Pieces.{in_flagged, in_spans-pieces, is_sorted-pieces, of_pre_release, of_release}
use Rattle.key_spans.proofs.Unique.{unique}

abbrev pub bare : Piece → Stretch (List ℕ)
bare p = record { start = p.start; stop = p.stop }

of_kind : (p : Piece) (flag : Bool) → p.releases_only ≡ flag → p ≡ flagged flag (bare p)
of_kind p flag e = λ i. record { start = p.start; stop = p.stop; releases_only = e i }

-- ---- sorted lists

first_some : (p : Piece) (ps : List Piece) → are_sorted (p ∷ ps) ≡ true → is_some_piece p ≡ true
first_some p [] h = h
first_some p (q ∷ ps) h = and_first _ _ h

first_behind : (p q : Piece) (ps : List Piece) → are_sorted (p ∷ q ∷ ps) ≡ true → is_piece_behind p q ≡ true
first_behind p q ps h = and_first _ _ (and_second (is_some_piece p) _ h)

pub sorted_tail : (p : Piece) (ps : List Piece) → are_sorted (p ∷ ps) ≡ true → are_sorted ps ≡ true
sorted_tail p [] h = refl
sorted_tail p (q ∷ ps) h = and_second (is_piece_behind p q) _ (and_second (is_some_piece p) _ h)

pub sorted_front : (ps qs : List Piece) → are_sorted (ps ++ qs) ≡ true → are_sorted ps ≡ true
sorted_front [] qs h = refl
sorted_front (p ∷ []) qs h = first_some p qs h
sorted_front (p ∷ q ∷ ps) qs h = and_from _ _ (and_first _ _ h)
    (and_from _ _ (first_behind p q (ps ++ qs) h) (sorted_front (q ∷ ps) qs (sorted_tail p (q ∷ ps ++ qs) h)))

pub sorted_back : (ps qs : List Piece) → are_sorted (ps ++ qs) ≡ true → are_sorted qs ≡ true
sorted_back [] qs h = h
sorted_back (p ∷ ps) qs h = sorted_back ps qs (sorted_tail p (ps ++ qs) h)

above : (flag : Bool) (s t : Stretch (List ℕ)) → is_piece_behind (flagged flag s) (flagged flag t) ≡ true
    → is_lt (slice_cmp nat_cmp s.stop t.start) ≡ true
above true s t h = h
above false s t h = h

past_from : (flag : Bool) (s : Stretch (List ℕ)) (ss : List (Stretch (List ℕ))) → are_sorted (all_flagged flag (s ∷ ss)) ≡ true
    → is_past (slice_cmp nat_cmp) s.stop ss ≡ true
past_from flag s [] h = refl
past_from flag s (t ∷ ts) h =
    let rest : are_sorted (all_flagged flag (t ∷ ts)) ≡ true = sorted_tail (flagged flag s) (all_flagged flag (t ∷ ts)) h in
    and_from _ _ (above flag s t (first_behind (flagged flag s) (flagged flag t) (all_flagged flag ts) h))
    (and_from _ _ (first_some (flagged flag t) (all_flagged flag ts) rest) (past_from flag t ts rest))

pub canonical_from : (flag : Bool) (ss : List (Stretch (List ℕ))) → are_sorted (all_flagged flag ss) ≡ true
    → is_canonical (slice_cmp nat_cmp) ss ≡ true
canonical_from flag [] h = refl
canonical_from flag (s ∷ ss) h = and_from _ _ (first_some (flagged flag s) (all_flagged flag ss) h) (past_from flag s ss h)

-- ---- with pre-releases included

unflagged : (p : Piece) → PieceEnds true p → p ≡ flagged false (bare p)
unflagged p h = of_kind p false (not-true _ h.fits_first)

pub all_unflagged : (ps : List Piece) → All (PieceEnds true) ps → ps ≡ all_flagged false (map bare ps)
all_unflagged [] h = refl
all_unflagged (p ∷ ps) h = λ i. unflagged p (All-head (PieceEnds true) p ps h) i ∷ all_unflagged ps (All-tail (PieceEnds true) p ps h) i

all_placed : (ps : List Piece) → All (PieceEnds true) ps → All AnyPlaced (map bare ps)
all_placed [] h = All-nil AnyPlaced
all_placed (p ∷ ps) h =
    let g : PieceEnds true p = All-head (PieceEnds true) p ps h in
    All-cons AnyPlaced (bare p) (map bare ps) (any_placed (bare p) (subst (PieceEnds true) (unflagged p g) g))
    (all_placed ps (All-tail (PieceEnds true) p ps h))

in_all : (ps : List Piece) → All (PieceEnds true) ps → (k : List ℕ) → has (slice_cmp nat_cmp) (map bare ps) k ≡ in_pieces ps k
in_all ps h k = sym (and-true _) ∙ (sym (in_flagged false (map bare ps) k) ∙ sym (ap (λ l. in_pieces l k) (all_unflagged ps h)))

one_of_all : (ps qs : List Piece) → are_sorted ps ≡ true → All (PieceEnds true) ps → are_sorted qs ≡ true → All (PieceEnds true) qs
    → ((v : VersionValue) → IsVersion v → in_pieces ps (key v) ≡ in_pieces qs (key v)) → ps ≡ qs
one_of_all ps qs a p b q same =
    let one : map bare ps ≡ map bare qs = unique nat_list_cmp_total (IsKeyOf IsAny) (LastEnd IsAny) same_bytes (map bare ps) (map bare qs)
    (all_placed ps p) (all_placed qs q)
    (canonical_from false (map bare ps) (ap are_sorted (sym (all_unflagged ps p)) ∙ a))
    (canonical_from false (map bare qs) (ap are_sorted (sym (all_unflagged qs q)) ∙ b))
    (λ k u. subst (λ l. has (slice_cmp nat_cmp) (map bare ps) l ≡ has (slice_cmp nat_cmp) (map bare qs) l) (sym u.3)
    (in_all ps p (key u.0) ∙ (same u.0 u.1 ∙ sym (in_all qs q (key u.0))))) in
    all_unflagged ps p ∙ (ap (all_flagged false) one ∙ sym (all_unflagged qs q))

-- ---- by the gate: releases, and then the others

pub record Split (ps : List Piece) : Type 0 where
  pub front : List (Stretch (List ℕ))
  pub back : List (Stretch (List ℕ))
  pub whole : ps ≡ all_flagged true front ++ all_flagged false back
  pub releases : All ReleasePlaced front
  pub others : All PrePlaced back

none_left : (s : Stretch (List ℕ)) (rs : List (Stretch (List ℕ))) (rest : List Piece)
    → are_sorted (flagged false s ∷ all_flagged true rs ++ rest) ≡ true → rs ≡ []
none_left s [] rest h = refl
none_left s (r ∷ rs) rest h = false_not_true (first_behind (flagged false s) (flagged true r) (all_flagged true rs ++ rest) h)

split_by : (flag : Bool) (p : Piece) (ps : List Piece) → p.releases_only ≡ flag → are_sorted (p ∷ ps) ≡ true → PieceEnds false p → Split ps
    → Split (p ∷ ps)
split_by true p ps e h g r = record {
  front = bare p ∷ r.front;
  back = r.back;
  whole = λ i. of_kind p true e i ∷ r.whole i;
  releases = All-cons ReleasePlaced (bare p) r.front (release_placed (bare p) (subst (PieceEnds false) (of_kind p true e) g)) r.releases;
  others = r.others;
}
split_by false p ps e h g r =
    let here : p ∷ ps ≡ flagged false (bare p) ∷ all_flagged true r.front ++ all_flagged false r.back = λ i. of_kind p false e i ∷ r.whole i in
    let none : r.front ≡ [] = none_left (bare p) r.front (all_flagged false r.back) (subst (λ l. are_sorted l ≡ true) here h) in
    record {
      front = [];
      back = bare p ∷ r.back;
      whole = here ∙ ap (λ l. flagged false (bare p) ∷ all_flagged true l ++ all_flagged false r.back) none;
      releases = All-nil ReleasePlaced;
      others = All-cons PrePlaced (bare p) r.back (pre_placed (bare p) (subst (PieceEnds false) (of_kind p false e) g)) r.others;
    }

pub split : (ps : List Piece) → are_sorted ps ≡ true → All (PieceEnds false) ps → Split ps
split [] h g = record { front = []; back = []; whole = refl; releases = All-nil ReleasePlaced; others = All-nil PrePlaced }
split (p ∷ ps) h g = split_by p.releases_only p ps refl h (All-head (PieceEnds false) p ps g)
    (split ps (sorted_tail p ps h) (All-tail (PieceEnds false) p ps g))

-- what is placed among the pre-releases holds no release
none_held : (s : Stretch (List ℕ)) (v : VersionValue) → PrePlaced s → IsVersion v → is_release v ≡ true
    → holds (slice_cmp nat_cmp) s (key v) ≡ false
none_held s v p k r = by_bool (holds (slice_cmp nat_cmp) s (key v))
    (λ e.
    let u : VersionValue = p.start.0 in
    let own : Ends (key u) (last_key u) = own_ends u p.start.1 p.start.2 in
    let reach : le s.stop (last_key u) ≡ true = p.within (last_key u) (subst (λ l. Ends l (last_key u)) (sym p.start.3) own) in
    let over : le (key u) (key v) ≡ true = subst (λ l. le l (key v) ≡ true) p.start.3 (and_first _ _ e) in
    let under : lt (key v) (last_key u) ≡ true = line.lt_before_le nat_list_cmp_total (key v) s.stop (last_key u)
    (and_second (le s.start (key v)) _ e) reach in
    let first : le (first_key u) (key u) ≡ true = and_first _ _ (is_inside u u p.start.1 p.start.1 p.start.2 (own_three u)) in
    false_true (is_release v) (inside u v p.start.1 k (line.le_le nat_list_cmp_total (first_key u) (key u) (key v) first over) under).0 r)
    (λ e. e)

pub none_in : (ss : List (Stretch (List ℕ))) (v : VersionValue) → All PrePlaced ss → IsVersion v → is_release v ≡ true
    → has (slice_cmp nat_cmp) ss (key v) ≡ false
none_in [] v h k r = refl
none_in (s ∷ ss) v h k r = λ i. none_held s v (All-head PrePlaced s ss h) k r i || none_in ss v (All-tail PrePlaced s ss h) k r i

module _ (ps : List Piece) (s : Split ps) (v : VersionValue) (k : IsVersion v) where
  in_both : in_pieces ps (key v) ≡ ((has (slice_cmp nat_cmp) s.front (key v) && (false || is_release v))
      || (has (slice_cmp nat_cmp) s.back (key v) && (true || is_release v)))
  in_both = ap (λ l. in_pieces l (key v)) s.whole
      ∙ (list_any-append (λ t. in_piece t (key v)) (all_flagged true s.front) (all_flagged false s.back)
      ∙ ((λ i. in_flagged true s.front (key v) i || in_flagged false s.back (key v) i)
      ∙ (λ i. (has (slice_cmp nat_cmp) s.front (key v) && (false || key_end v i)) || (has (slice_cmp nat_cmp) s.back (key v) && (true || key_end v i)))))

  pub in_front : is_release v ≡ true → in_pieces ps (key v) ≡ has (slice_cmp nat_cmp) s.front (key v)
  in_front r = in_both
      ∙ ((λ i. (has (slice_cmp nat_cmp) s.front (key v) && (false || r i)) || (none_in s.back v s.others k r i && (true || r i)))
      ∙ of_release (has (slice_cmp nat_cmp) s.front (key v)))

  pub in_back : is_release v ≡ false → in_pieces ps (key v) ≡ has (slice_cmp nat_cmp) s.back (key v)
  in_back r = in_both
      ∙ ((λ i. (has (slice_cmp nat_cmp) s.front (key v) && (false || r i)) || (has (slice_cmp nat_cmp) s.back (key v) && (true || r i)))
      ∙ of_pre_release (has (slice_cmp nat_cmp) s.front (key v)) (has (slice_cmp nat_cmp) s.back (key v)))

one_by_gate : (ps qs : List Piece) → are_sorted ps ≡ true → All (PieceEnds false) ps → are_sorted qs ≡ true → All (PieceEnds false) qs
    → ((v : VersionValue) → IsVersion v → in_pieces ps (key v) ≡ in_pieces qs (key v)) → ps ≡ qs
one_by_gate ps qs a p b q same =
    let s : Split ps = split ps a p in
    let t : Split qs = split qs b q in
    let sorted_s : are_sorted (all_flagged true s.front ++ all_flagged false s.back) ≡ true = ap are_sorted (sym s.whole) ∙ a in
    let sorted_t : are_sorted (all_flagged true t.front ++ all_flagged false t.back) ≡ true = ap are_sorted (sym t.whole) ∙ b in
    let fronts : s.front ≡ t.front = unique nat_list_cmp_total (IsKeyOf IsRelease) (LastEnd IsRelease) same_bytes s.front t.front s.releases t.releases
    (canonical_from true s.front (sorted_front (all_flagged true s.front) (all_flagged false s.back) sorted_s))
    (canonical_from true t.front (sorted_front (all_flagged true t.front) (all_flagged false t.back) sorted_t))
    (λ k u. subst (λ l. has (slice_cmp nat_cmp) s.front l ≡ has (slice_cmp nat_cmp) t.front l) (sym u.3)
    (sym (in_front ps s u.0 u.1 u.2) ∙ (same u.0 u.1 ∙ in_front qs t u.0 u.1 u.2))) in
    let backs : s.back ≡ t.back = unique nat_list_cmp_total IsPreKey Ends same_bytes s.back t.back s.others t.others
    (canonical_from false s.back (sorted_back (all_flagged true s.front) (all_flagged false s.back) sorted_s))
    (canonical_from false t.back (sorted_back (all_flagged true t.front) (all_flagged false t.back) sorted_t))
    (λ k u. subst (λ l. has (slice_cmp nat_cmp) s.back l ≡ has (slice_cmp nat_cmp) t.back l) (sym u.3)
    (sym (in_back ps s u.0 u.1 u.2) ∙ (same u.0 u.1 ∙ in_back qs t u.0 u.1 u.2))) in
    s.whole ∙ ((λ i. all_flagged true (fronts i) ++ all_flagged false (backs i)) ∙ sym t.whole)

-- ---- lists of spans

bytes-pieces : (xs : List KeySpan) → map bytes xs ≡ map (λ p. (p.start, p.stop, p.releases_only)) (pieces xs)
bytes-pieces [] = refl
bytes-pieces (x ∷ xs) = ap (λ l. bytes x ∷ l) (bytes-pieces xs)

pub unmapped : (include : Bool) (xs : List KeySpan) → All (PieceEnds include) (pieces xs) → All (HasEnds include) xs
unmapped include [] h = All-nil (HasEnds include)
unmapped include (x ∷ xs) h = All-cons (HasEnds include) x xs (All-head (PieceEnds include) (piece x) (pieces xs) h)
    (unmapped include xs (All-tail (PieceEnds include) (piece x) (pieces xs) h))

pub one_by : (include : Bool) (ps qs : List Piece) → are_sorted ps ≡ true → All (PieceEnds include) ps → are_sorted qs ≡ true
    → All (PieceEnds include) qs → ((v : VersionValue) → IsVersion v → in_pieces ps (key v) ≡ in_pieces qs (key v)) → ps ≡ qs
one_by true = one_of_all
one_by false = one_by_gate

pub one_list : (include : Bool) (xs ys : List KeySpan) → is_sorted xs ≡ true → All (HasEnds include) xs → is_sorted ys ≡ true
    → All (HasEnds include) ys → ((v : VersionValue) → IsVersion v → in_spans xs (key v) ≡ in_spans ys (key v)) → map bytes xs ≡ map bytes ys
one_list include xs ys a p b q same =
    let one : pieces xs ≡ pieces ys = one_by include (pieces xs) (pieces ys)
    (sym (is_sorted-pieces xs) ∙ a) (All-map (PieceEnds include) piece xs p)
    (sym (is_sorted-pieces ys) ∙ b) (All-map (PieceEnds include) piece ys q)
    (λ v k. sym (in_spans-pieces xs (key v)) ∙ (same v k ∙ in_spans-pieces ys (key v))) in
    bytes-pieces xs ∙ (ap (map (λ p. (p.start, p.stop, p.releases_only))) one ∙ sym (bytes-pieces ys))
