-- What two lists of spans make together.
use Rattle.std.proofs.Common.{ℕ, ◌≡◌, ◌≤◌, ◌<◌, ◌+◌, ◌++◌, ◌∷◌, ◌&&◌, ◌||◌, ◌⊎◌, List, [], Bool, true, false, not, refl, ap, arith, ◌∙◌, sym, subst, inl, inr, true≢false, zero, suc, take, drop}
use Rattle.std.proofs.lemmas.Bool.{and_from, not-true, or_parts}
use Rattle.std.proofs.Math.Bool.{and-true}
use Rattle.std.specs.Prelude.{All, Contains, if◌then◌else◌, length, slice_index_or}
use Rattle.std.specs.List.{list_all}
use Rattle.std.specs.List.Sorted.{IsPartitionedBy}
use Rattle.std.proofs.lemmas.List.{length-append, length-map, map-append}
use Rattle.std.proofs.lemmas.List.Elements.{All-append, All-cons, All-contains, All-head, All-map, All-nil, All-tail}
use Rattle.std.specs.Cmp.Lexicographic.{nat_list_cmp_total, slice_cmp}
use Rattle.std.specs.Ordering.{is_lt, nat_cmp}
use Rattle.semver_core.specs.Keys.{key}
use Rattle.semver_core.specs.Values.Versions.{IsVersion, VersionValue, is_release, release_value}
use Rattle.key_spans.specs.Internal.Ends.{IsByKind, IsSwept, ends}
use Rattle.key_spans.specs.Internal.Pieces.{Piece, PieceEnds, all_flagged, are_sorted, flagged, in_pieces, piece, pieces, stretch_of, stretches}
use Rattle.key_spans.specs.Internal.Sets.{Stretch, has, holds, is_canonical, is_past}
use Rattle.key_spans.specs.Spans.{IsCombined, is_behind, is_sorted, is_some_span}
use Rattle.key_spans.specs.declared.KeySpan.{KeySpan}
use Rattle.key_spans.proofs.Bytes.{same_bytes}
use Rattle.key_spans.proofs.Canonical.{AnyPlaced, PrePlaced, ReleasePlaced, all_any_ends, all_pre_ends, all_release_ends, any_placed, own_ends, own_three, pre_placed, release_placed}
use Rattle.key_spans.proofs.Keys.{le, lt}
use Rattle.key_spans.proofs.Line as line
use Rattle.key_spans.proofs.Line.{and_first, and_second, by_bool, false_true}
use Rattle.key_spans.proofs.OneList.{IsAny, IsKeyOf, IsKeyPlace, IsRelease, key_fits}
use Rattle.key_spans.proofs.OnePreList.{Ends, IsPreKey, first_key, inside, is_inside, last_key}
use Rattle.key_spans.proofs.OneSet.{Split, canonical_from, in_back, in_front, none_in, sorted_back, sorted_front, unmapped}
use Rattle.key_spans.proofs.Pieces.{in_flagged, in_spans-pieces, is_sorted-pieces, sorted-both}
use Rattle.key_spans.proofs.Releases.{release_is}

-- ---- the ends of what is placed, and what lies between such ends

abbrev IsFull : Stretch (List ℕ) → Type 0
IsFull s = is_lt (slice_cmp nat_cmp s.start s.stop) ≡ true

full_past : (p : List ℕ) (ss : List (Stretch (List ℕ))) → is_past (slice_cmp nat_cmp) p ss ≡ true → All IsFull ss
full_past p [] h = All-nil IsFull
full_past p (s ∷ ss) h =
    let more : (is_lt (slice_cmp nat_cmp s.start s.stop) && is_past (slice_cmp nat_cmp) s.stop ss) ≡ true =
    and_second (is_lt (slice_cmp nat_cmp p s.start)) _ h in
    All-cons IsFull s ss (and_first _ _ more) (full_past s.stop ss (and_second (is_lt (slice_cmp nat_cmp s.start s.stop)) _ more))

each_full : (ss : List (Stretch (List ℕ))) → is_canonical (slice_cmp nat_cmp) ss ≡ true → All IsFull ss
each_full [] h = All-nil IsFull
each_full (s ∷ ss) h = All-cons IsFull s ss (and_first _ _ h)
    (full_past s.stop ss (and_second (is_lt (slice_cmp nat_cmp s.start s.stop)) _ h))

-- what is said of both ends of each stretch
each_end : (P : List ℕ → Type 0) (C : Stretch (List ℕ) → Type 0) → ((s : Stretch (List ℕ)) → IsFull s → P s.start → P s.stop → C s)
    → (ss : List (Stretch (List ℕ))) → All IsFull ss → All P (ends ss) → All C ss
each_end P C f [] h g = All-nil C
each_end P C f (s ∷ ss) h g =
    let rest : All P (s.stop ∷ ends ss) = All-tail P s.start (s.stop ∷ ends ss) g in
    All-cons C s ss (f s (All-head IsFull s ss h) (All-head P s.start (s.stop ∷ ends ss) g) (All-head P s.stop (ends ss) rest))
    (each_end P C f ss (All-tail IsFull s ss h) (All-tail P s.stop (ends ss) rest))

ends_all : (P : List ℕ → Type 0) (C : Stretch (List ℕ) → Type 0) → ((s : Stretch (List ℕ)) → C s → P s.start × P s.stop)
    → (ss : List (Stretch (List ℕ))) → All C ss → All P (ends ss)
ends_all P C f [] h = All-nil P
ends_all P C f (s ∷ ss) h =
    let both : P s.start × P s.stop = f s (All-head C s ss h) in
    All-cons P s.start (s.stop ∷ ends ss) both.0 (All-cons P s.stop (ends ss) both.1 (ends_all P C f ss (All-tail C s ss h)))

-- the ends of a set that was swept are those of the two sets
ends_kept : (P : List ℕ → Type 0) (keeps : Bool → Bool → Bool) (xs ys zs : List (Stretch (List ℕ))) → IsSwept (slice_cmp nat_cmp) keeps xs ys zs
    → All P (ends xs) → All P (ends ys) → All P (ends zs)
ends_kept P keeps xs ys zs h p q = all_in (ends zs) h.ends_of_them
  where
    all : All P (ends xs ++ ends ys)
    all = All-append P (ends xs) (ends ys) p q

    all_in : (es : List (List ℕ)) → All (Contains (ends xs ++ ends ys)) es → All P es
    all_in [] h = All-nil P
    all_in (e ∷ es) h = All-cons P e es
        (All-contains P (ends xs ++ ends ys) e all (All-head (Contains (ends xs ++ ends ys)) e es h))
        (all_in es (All-tail (Contains (ends xs ++ ends ys)) e es h))

-- ---- pre-releases of some numbers

pre_key : (k : List ℕ) → IsPreKey k → IsKeyOf IsAny k
pre_key k h = (h.0, h.1, refl, h.3)

end_is_key : (a e : List ℕ) → Ends a e → IsKeyOf IsAny e
end_is_key a e h = (
  release_value h.of.major h.of.minor h.of.patch,
  release_is h.of.major h.of.minor h.of.patch h.is_version.major h.is_version.minor h.is_version.patch,
  refl,
  h.is,
)

pre_ends_are : (s : Stretch (List ℕ)) → PrePlaced s → IsKeyOf IsAny s.start × IsKeyOf IsAny s.stop
pre_ends_are s p =
    (pre_key s.start p.start, elim p.stop [ inl u ↦ pre_key s.stop u | inr u ↦ end_is_key s.start s.stop u ])

-- a stretch that holds no release, and that begins and stops at keys
abbrev HoldsNone : Stretch (List ℕ) → Type 0
HoldsNone s = (v : VersionValue) → IsVersion v → is_release v ≡ true → holds (slice_cmp nat_cmp) s (key v) ≡ false

pre_start : (s : Stretch (List ℕ)) → lt s.start s.stop ≡ true → HoldsNone s → IsKeyOf IsAny s.start → IsPreKey s.start
pre_start s full none u = (
  u.0,
  u.1,
  by_bool (is_release u.0)
      (λ r. false_true (holds (slice_cmp nat_cmp) s (key u.0)) (none u.0 u.1 r)
      (subst (λ k. holds (slice_cmp nat_cmp) s k ≡ true) u.3 (and_from _ _ (line.le_itself nat_list_cmp_total s.start) full)))
      (λ r. r),
  u.3,
)

pre_within : (s : Stretch (List ℕ)) → HoldsNone s → (e : List ℕ) → Ends s.start e → le s.stop e ≡ true
pre_within s none e h = by_bool (le s.stop e) (λ l. l)
    (λ l.
    let r : VersionValue = release_value h.of.major h.of.minor h.of.patch in
    let up : le s.start e ≡ true = line.le_from_lt nat_list_cmp_total s.start e (subst (λ k. lt s.start k ≡ true) (sym h.is) h.upto) in
    let held : holds (slice_cmp nat_cmp) s e ≡ true = and_from _ _ up (line.lt_from_not nat_list_cmp_total e s.stop l) in
    false_true (holds (slice_cmp nat_cmp) s (key r))
    (none r (release_is h.of.major h.of.minor h.of.patch h.is_version.major h.is_version.minor h.is_version.patch) refl)
    (subst (λ k. holds (slice_cmp nat_cmp) s k ≡ true) h.is held))

pre_stop : (s : Stretch (List ℕ)) → lt s.start s.stop ≡ true → ((e : List ℕ) → Ends s.start e → le s.stop e ≡ true)
    → IsPreKey s.start → IsKeyOf IsAny s.stop → IsPreKey s.stop ⊎ Ends s.start s.stop
pre_stop s full within u w = by_bool (is_release w.0)
    (λ r.
    let own : Ends s.start (last_key u.0) = subst (λ k. Ends k (last_key u.0)) (sym u.3) (own_ends u.0 u.1 u.2) in
    let upto : le s.stop (last_key u.0) ≡ true = within (last_key u.0) own in
    let is : s.stop ≡ last_key u.0 = by_bool (le (last_key u.0) s.stop)
    (λ l. same_bytes s.stop (last_key u.0) (line.tied nat_list_cmp_total s.stop (last_key u.0) upto l))
    (λ l.
    let first : le (first_key u.0) (key u.0) ≡ true = and_first _ _ (is_inside u.0 u.0 u.1 u.1 u.2 (own_three u.0)) in
    let over : le (key u.0) (key w.0) ≡ true = line.le_from_lt nat_list_cmp_total (key u.0) (key w.0)
    (subst (λ k. lt k (key w.0) ≡ true) u.3 (subst (λ k. lt s.start k ≡ true) w.3 full)) in
    let under : lt (key w.0) (last_key u.0) ≡ true = subst (λ k. lt k (last_key u.0) ≡ true) w.3 (line.lt_from_not nat_list_cmp_total s.stop (last_key u.0) l) in
    false_true (is_release w.0)
    (inside u.0 w.0 u.1 w.1 (line.le_le nat_list_cmp_total (first_key u.0) (key u.0) (key w.0) first over) under).0 r) in
    inr (record { of = own.of; is_version = own.is_version; from = own.from; upto = own.upto; is = is ∙ own.is }))
    (λ r. inl (w.0, w.1, r, w.3))

pre_from : (s : Stretch (List ℕ)) → lt s.start s.stop ≡ true → HoldsNone s → IsKeyOf IsAny s.start → IsKeyOf IsAny s.stop → PrePlaced s
pre_from s full none u w =
    let start : IsPreKey s.start = pre_start s full none u in
    record { start = start; stop = pre_stop s full (pre_within s none) start w; within = pre_within s none }

abbrev HaveNone : List (Stretch (List ℕ)) → Type 0
HaveNone ss = (v : VersionValue) → IsVersion v → is_release v ≡ true → has (slice_cmp nat_cmp) ss (key v) ≡ false

none_each : (ss : List (Stretch (List ℕ))) → HaveNone ss → All HoldsNone ss
none_each [] h = All-nil HoldsNone
none_each (s ∷ ss) h = All-cons HoldsNone s ss (λ v k r. (or_parts _ _ (h v k r)).0)
    (none_each ss (λ v k r. (or_parts (holds (slice_cmp nat_cmp) s (key v)) _ (h v k r)).1))

all_pre : (ss : List (Stretch (List ℕ))) → All IsFull ss → All HoldsNone ss → All (IsKeyOf IsAny) (ends ss) → All PrePlaced ss
all_pre [] h none g = All-nil PrePlaced
all_pre (s ∷ ss) h none g =
    let rest : All (IsKeyOf IsAny) (s.stop ∷ ends ss) = All-tail (IsKeyOf IsAny) s.start (s.stop ∷ ends ss) g in
    All-cons PrePlaced s ss
    (pre_from s (All-head IsFull s ss h) (All-head HoldsNone s ss none)
    (All-head (IsKeyOf IsAny) s.start (s.stop ∷ ends ss) g) (All-head (IsKeyOf IsAny) s.stop (ends ss) rest))
    (all_pre ss (All-tail IsFull s ss h) (All-tail HoldsNone s ss none) (All-tail (IsKeyOf IsAny) s.stop (ends ss) rest))

-- ---- pieces of both kinds

front_all : (P : Stretch (List ℕ) → Type 0) (include flag : Bool) → ((s : Stretch (List ℕ)) → PieceEnds include (flagged flag s) → P s)
    → (ss : List (Stretch (List ℕ))) → All (PieceEnds include) (all_flagged flag ss) → All P ss
front_all P include flag f [] h = All-nil P
front_all P include flag f (s ∷ ss) h = All-cons P s ss (f s (All-head (PieceEnds include) (flagged flag s) (all_flagged flag ss) h))
    (front_all P include flag f ss (All-tail (PieceEnds include) (flagged flag s) (all_flagged flag ss) h))

all_front : {X : Type 0} (P : X → Type 0) (xs ys : List X) → All P (xs ++ ys) → All P xs
all_front P [] ys h = All-nil P
all_front P (x ∷ xs) ys h = All-cons P x xs (All-head P x (xs ++ ys) h) (all_front P xs ys (All-tail P x (xs ++ ys) h))

all_back : {X : Type 0} (P : X → Type 0) (xs ys : List X) → All P (xs ++ ys) → All P ys
all_back P [] ys h = h
all_back P (x ∷ xs) ys h = all_back P xs ys (All-tail P x (xs ++ ys) h)

abbrev pub both_kinds : (releases others : List (Stretch (List ℕ))) → List Piece
both_kinds rs os = all_flagged true rs ++ all_flagged false os

-- what is made of pieces such as `key_spans` returns
pub record IsMade (keeps : Bool → Bool → Bool) (include : Bool) (ra oa rb ob rc oc : List (Stretch (List ℕ))) : Type 0 where
  pub sorted : are_sorted (both_kinds rc oc) ≡ true
  pub ends_are : All (PieceEnds include) (both_kinds rc oc)
  pub exact : (v : VersionValue) → IsVersion v
      → in_pieces (both_kinds rc oc) (key v) ≡ keeps (in_pieces (both_kinds ra oa) (key v)) (in_pieces (both_kinds rb ob) (key v))

module _ (keeps : Bool → Bool → Bool) (none : keeps false false ≡ false) (ra oa rb ob rc oc : List (Stretch (List ℕ)))
    (r : IsSwept (slice_cmp nat_cmp) keeps ra rb rc) (o : IsSwept (slice_cmp nat_cmp) keeps oa ob oc)
    (sorted_a : are_sorted (both_kinds ra oa) ≡ true) (sorted_b : are_sorted (both_kinds rb ob) ≡ true) where
  front_of : (rs os : List (Stretch (List ℕ))) → are_sorted (both_kinds rs os) ≡ true → is_canonical (slice_cmp nat_cmp) rs ≡ true
  front_of rs os h = canonical_from true rs (sorted_front (all_flagged true rs) (all_flagged false os) h)

  back_of : (rs os : List (Stretch (List ℕ))) → are_sorted (both_kinds rs os) ≡ true → is_canonical (slice_cmp nat_cmp) os ≡ true
  back_of rs os h = canonical_from false os (sorted_back (all_flagged true rs) (all_flagged false os) h)

  canonical_r : is_canonical (slice_cmp nat_cmp) rc ≡ true
  canonical_r = r.canonical (front_of ra oa sorted_a) (front_of rb ob sorted_b)

  canonical_o : is_canonical (slice_cmp nat_cmp) oc ≡ true
  canonical_o = o.canonical (back_of ra oa sorted_a) (back_of rb ob sorted_b)

  -- without pre-releases included
  module _ (ends_a : All (PieceEnds false) (both_kinds ra oa)) (ends_b : All (PieceEnds false) (both_kinds rb ob)) where
    abbrev split_of : (rs os : List (Stretch (List ℕ))) → All (PieceEnds false) (both_kinds rs os) → Split (both_kinds rs os)
    split_of rs os h = record {
      front = rs;
      back = os;
      whole = refl;
      releases = front_all ReleasePlaced false true release_placed rs (all_front (PieceEnds false) (all_flagged true rs) (all_flagged false os) h);
      others = front_all PrePlaced false false pre_placed os (all_back (PieceEnds false) (all_flagged true rs) (all_flagged false os) h);
    }

    no_release : (v : VersionValue) → IsVersion v → is_release v ≡ true → has (slice_cmp nat_cmp) oc (key v) ≡ false
    no_release v k q = o.same (back_of ra oa sorted_a) (back_of rb ob sorted_b) (key v)
        ∙ ((λ i. keeps (none_in oa v (split_of ra oa ends_a).others k q i) (none_in ob v (split_of rb ob ends_b).others k q i)) ∙ none)

    release_kept : All ReleasePlaced rc
    release_kept = each_end (IsKeyPlace IsRelease) ReleasePlaced (λ s f u w. key_fits IsRelease s u w f) rc (each_full rc canonical_r)
        (ends_kept (IsKeyPlace IsRelease) keeps ra rb rc r
        (ends_all (IsKeyPlace IsRelease) ReleasePlaced (λ s p. (inl p.start, p.stop)) ra (split_of ra oa ends_a).releases)
        (ends_all (IsKeyPlace IsRelease) ReleasePlaced (λ s p. (inl p.start, p.stop)) rb (split_of rb ob ends_b).releases))

    pre_kept : All PrePlaced oc
    pre_kept = all_pre oc (each_full oc canonical_o) (none_each oc no_release)
        (ends_kept (IsKeyOf IsAny) keeps oa ob oc o
        (ends_all (IsKeyOf IsAny) PrePlaced pre_ends_are oa (split_of ra oa ends_a).others)
        (ends_all (IsKeyOf IsAny) PrePlaced pre_ends_are ob (split_of rb ob ends_b).others))

    abbrev split_c : Split (both_kinds rc oc)
    split_c = record { front = rc; back = oc; whole = refl; releases = release_kept; others = pre_kept }

    made_by_gate : IsMade keeps false ra oa rb ob rc oc
    made_by_gate = record {
      sorted = sorted-both rc oc canonical_r canonical_o;
      ends_are = All-append (PieceEnds false) (all_flagged true rc) (all_flagged false oc) (all_release_ends rc release_kept)
          (all_pre_ends oc canonical_o pre_kept);
      exact = λ v k.
          let sa : Split (both_kinds ra oa) = split_of ra oa ends_a in
          let sb : Split (both_kinds rb ob) = split_of rb ob ends_b in
          by_bool (is_release v)
          (λ q. in_front (both_kinds rc oc) split_c v k q ∙ (r.same (front_of ra oa sorted_a) (front_of rb ob sorted_b) (key v)
          ∙ (λ i. keeps (sym (in_front (both_kinds ra oa) sa v k q) i) (sym (in_front (both_kinds rb ob) sb v k q) i))))
          (λ q. in_back (both_kinds rc oc) split_c v k q ∙ (o.same (back_of ra oa sorted_a) (back_of rb ob sorted_b) (key v)
          ∙ (λ i. keeps (sym (in_back (both_kinds ra oa) sa v k q) i) (sym (in_back (both_kinds rb ob) sb v k q) i))));
    }

  -- with pre-releases included
  module _ (ends_a : All (PieceEnds true) (both_kinds ra oa)) (ends_b : All (PieceEnds true) (both_kinds rb ob)) where
    none_flagged : (rs os : List (Stretch (List ℕ))) → All (PieceEnds true) (both_kinds rs os) → rs ≡ []
    none_flagged [] os h = refl
    none_flagged (s ∷ rs) os h = absurd (true≢false (sym (All-head (PieceEnds true) (flagged true s) (both_kinds rs os) h).fits_first))

    empty : (ss : List (Stretch (List ℕ))) → length ss ≤ 0 → ss ≡ []
    empty [] h = refl
    empty (s ∷ ss) h = absurd (omega (arith, h))

    none_made : rc ≡ []
    none_made = empty rc (omega (arith, r.few, ap length (none_flagged ra oa ends_a), ap length (none_flagged rb ob ends_b)))

    placed_of : (rs os : List (Stretch (List ℕ))) → All (PieceEnds true) (both_kinds rs os) → All AnyPlaced os
    placed_of rs os h = front_all AnyPlaced true false any_placed os (all_back (PieceEnds true) (all_flagged true rs) (all_flagged false os) h)

    any_kept : All AnyPlaced oc
    any_kept = each_end (IsKeyPlace IsAny) AnyPlaced (λ s f u w. key_fits IsAny s u w f) oc (each_full oc canonical_o)
        (ends_kept (IsKeyPlace IsAny) keeps oa ob oc o
        (ends_all (IsKeyPlace IsAny) AnyPlaced (λ s p. (inl p.start, p.stop)) oa (placed_of ra oa ends_a))
        (ends_all (IsKeyPlace IsAny) AnyPlaced (λ s p. (inl p.start, p.stop)) ob (placed_of rb ob ends_b)))

    in_others : (rs os : List (Stretch (List ℕ))) → rs ≡ [] → (k : List ℕ) → in_pieces (both_kinds rs os) k ≡ has (slice_cmp nat_cmp) os k
    in_others rs os e k = ap (λ l. in_pieces (both_kinds l os) k) e ∙ (in_flagged false os k ∙ and-true _)

    made_of_all : IsMade keeps true ra oa rb ob rc oc
    made_of_all = record {
      sorted = sorted-both rc oc canonical_r canonical_o;
      ends_are = subst (λ l. All (PieceEnds true) (both_kinds l oc)) (sym none_made) (all_any_ends oc any_kept);
      exact = λ v k. in_others rc oc none_made (key v) ∙ (o.same (back_of ra oa sorted_a) (back_of rb ob sorted_b) (key v)
          ∙ (λ i. keeps (sym (in_others ra oa (none_flagged ra oa ends_a) (key v)) i) (sym (in_others rb ob (none_flagged rb ob ends_b) (key v)) i)));
    }

  made : (include : Bool) → All (PieceEnds include) (both_kinds ra oa) → All (PieceEnds include) (both_kinds rb ob)
      → IsMade keeps include ra oa rb ob rc oc
  made true a b = made_of_all a b
  made false a b = made_by_gate a b

-- ---- lists of spans

pieces_flagged : (spans : List KeySpan) → list_all (λ s. s.releases_only) spans ≡ true → pieces spans ≡ all_flagged true (stretches spans)
pieces_flagged [] h = refl
pieces_flagged (s ∷ spans) h =
    let flag : s.releases_only ≡ true = and_first _ _ h in
    λ i. record { start = s.start.items; stop = s.stop.items; releases_only = flag i } ∷ pieces_flagged spans (and_second s.releases_only _ h) i

pieces_unflagged : (spans : List KeySpan) → list_all (λ s. not s.releases_only) spans ≡ true → pieces spans ≡ all_flagged false (stretches spans)
pieces_unflagged [] h = refl
pieces_unflagged (s ∷ spans) h =
    let flag : s.releases_only ≡ false = not-true _ (and_first _ _ h) in
    λ i. record { start = s.start.items; stop = s.stop.items; releases_only = flag i } ∷ pieces_unflagged spans (and_second (not s.releases_only) _ h) i

pieces_cut : (spans rs os : List KeySpan) → IsByKind spans rs os → is_sorted spans ≡ true → pieces spans ≡ both_kinds (stretches rs) (stretches os)
pieces_cut spans rs os c h = ap pieces c.whole ∙ (map-append piece rs os
    ∙ (λ i. pieces_flagged rs (c.releases_first h) i ++ pieces_unflagged os (c.others_behind h) i))

pub combined : (keeps : Bool → Bool → Bool) → keeps false false ≡ false → (xs ra oa ys rb ob zs : List KeySpan) (rc oc : List (Stretch (List ℕ)))
    → IsByKind xs ra oa → IsByKind ys rb ob → IsSwept (slice_cmp nat_cmp) keeps (stretches ra) (stretches rb) rc
    → IsSwept (slice_cmp nat_cmp) keeps (stretches oa) (stretches ob) oc → pieces zs ≡ both_kinds rc oc → IsCombined keeps xs ys zs
combined keeps none xs ra oa ys rb ob zs rc oc a b r o c include f g =
    let cut_a : pieces xs ≡ both_kinds (stretches ra) (stretches oa) = pieces_cut xs ra oa a f.0 in
    let cut_b : pieces ys ≡ both_kinds (stretches rb) (stretches ob) = pieces_cut ys rb ob b g.0 in
    let m : IsMade keeps include (stretches ra) (stretches oa) (stretches rb) (stretches ob) rc oc =
    made keeps none (stretches ra) (stretches oa) (stretches rb) (stretches ob) rc oc r o
    (ap are_sorted (sym cut_a) ∙ (sym (is_sorted-pieces xs) ∙ f.0)) (ap are_sorted (sym cut_b) ∙ (sym (is_sorted-pieces ys) ∙ g.0))
    include (subst (All (PieceEnds include)) cut_a (All-map (PieceEnds include) piece xs f.1))
    (subst (All (PieceEnds include)) cut_b (All-map (PieceEnds include) piece ys g.1)) in (
      (
        is_sorted-pieces zs ∙ (ap are_sorted c ∙ m.sorted),
        unmapped include zs (subst (All (PieceEnds include)) (sym c) m.ends_are),
      ),
      λ v k. in_spans-pieces zs (key v) ∙ (ap (λ l. in_pieces l (key v)) c ∙ (m.exact v k
          ∙ (λ i. keeps ((ap (λ l. in_pieces l (key v)) (sym cut_a) ∙ sym (in_spans-pieces xs (key v))) i)
          ((ap (λ l. in_pieces l (key v)) (sym cut_b) ∙ sym (in_spans-pieces ys (key v))) i)))),
    )

pub combined_few : (keeps : Bool → Bool → Bool) → (xs ra oa ys rb ob zs : List KeySpan) (rc oc : List (Stretch (List ℕ)))
    → IsByKind xs ra oa → IsByKind ys rb ob → IsSwept (slice_cmp nat_cmp) keeps (stretches ra) (stretches rb) rc
    → IsSwept (slice_cmp nat_cmp) keeps (stretches oa) (stretches ob) oc → pieces zs ≡ both_kinds rc oc
    → length zs ≤ length xs + length ys
combined_few keeps xs ra oa ys rb ob zs rc oc a b r o c = omega (
  arith,
  r.few,
  o.few,
  ap length c,
  ap length a.whole,
  ap length b.whole,
  length-append ra oa,
  length-append rb ob,
  length-append (all_flagged true rc) (all_flagged false oc),
  length-map zs piece,
  length-map rc (flagged true),
  length-map oc (flagged false),
  length-map ra stretch_of,
  length-map oa stretch_of,
  length-map rb stretch_of,
  length-map ob stretch_of,
)

-- ---- where spans of releases end

flag_first : (s t : KeySpan) (spans : List KeySpan) → is_sorted (s ∷ t ∷ spans) ≡ true → t.releases_only ≡ true → s.releases_only ≡ true
flag_first s t spans h e = by s.releases_only t.releases_only _ (and_first _ _ (and_second (is_some_span s) _ h)) e
  where
    by : (a b c : Bool) → (if a then not b || c else not b && c) ≡ true → b ≡ true → a ≡ true
    by true b c h e = refl
    by false true c h e = h
    by false false c h e = absurd (true≢false (sym e))

sorted_rest : (s : KeySpan) (spans : List KeySpan) → is_sorted (s ∷ spans) ≡ true → is_sorted spans ≡ true
sorted_rest s [] h = refl
sorted_rest s (t ∷ spans) h = and_second (is_behind s t) _ (and_second (is_some_span s) _ h)

pub by_kind : (spans : List KeySpan) → is_sorted spans ≡ true → IsPartitionedBy (λ s. s.releases_only) spans
by_kind [] h i j d l m e = absurd (omega (arith, m))
by_kind (s ∷ spans) h zero zero d l m e = e
by_kind (s ∷ []) h zero (suc j) d l m e = absurd (omega (arith, m))
by_kind (s ∷ t ∷ spans) h zero (suc j) d l m e =
    flag_first s t spans h (by_kind (t ∷ spans) (sorted_rest s (t ∷ spans) h) zero j d (omega arith) (omega (arith, m)) e)
by_kind (s ∷ spans) h (suc i) zero d l m e = absurd (omega (arith, l))
by_kind (s ∷ spans) h (suc i) (suc j) d l m e = by_kind spans (sorted_rest s spans h) i j d (omega (arith, l)) (omega (arith, m)) e

pub all_taken : {X : Type 0} (p : X → Bool) (xs : List X) (i : ℕ) → ((k : ℕ) (d : X) → 0 ≤ k → k < i → p (slice_index_or xs k d) ≡ true)
    → i ≤ length xs → list_all p (take i xs) ≡ true
all_taken p [] zero h l = refl
all_taken p [] (suc i) h l = refl
all_taken p (x ∷ xs) zero h l = refl
all_taken p (x ∷ xs) (suc i) h l = and_from _ _ (h 0 x (omega arith) (omega arith))
    (all_taken p xs i (λ k d m n. h (suc k) d (omega arith) (omega (arith, n))) (omega (arith, l)))

pub all_dropped : {X : Type 0} (p : X → Bool) (xs : List X) (i : ℕ) → ((k : ℕ) (d : X) → i ≤ k → k < length xs → p (slice_index_or xs k d) ≡ true)
    → list_all p (drop i xs) ≡ true
all_dropped p [] zero h = refl
all_dropped p [] (suc i) h = refl
all_dropped p (x ∷ xs) zero h = and_from _ _ (h 0 x (omega arith) (omega arith))
    (all_dropped p xs zero (λ k d m n. h (suc k) d (omega arith) (omega (arith, n))))
all_dropped p (x ∷ xs) (suc i) h = all_dropped p xs i (λ k d m n. h (suc k) d (omega (arith, m)) (omega (arith, n)))
