-- A version lies in one span at most.
use Rattle.std.proofs.Common.{ℕ, ◌≡◌, ◌≤◌, ◌++◌, ◌∷◌, ◌&&◌, ◌||◌, List, [], Bool, true, false, not, refl, ap, arith, ◌∙◌, sym, subst, true≢false, append-nil, map}
use Rattle.std.proofs.lemmas.Bool.{and_right, or_parts}
use Rattle.std.specs.Prelude.{All, cond, filter, length}
use Rattle.std.proofs.lemmas.List.Elements.{All-map, filter-append}
use Rattle.std.specs.Cmp.Lexicographic.{nat_list_cmp_total, slice_cmp}
use Rattle.std.specs.List.{list_any}
use Rattle.std.specs.Ordering.{is_le, is_lt, nat_cmp}
use Rattle.semver_core.specs.Keys.{key}
use Rattle.semver_core.specs.Values.Versions.{IsVersion, VersionValue, is_release}
use Rattle.key_spans.specs.Internal.Pieces.{Piece, PieceEnds, all_flagged, are_sorted, flagged, in_piece, piece, pieces}
use Rattle.key_spans.specs.Internal.Sets.{Stretch, has, holds, is_canonical, is_past}
use Rattle.key_spans.specs.Spans.{HasEnds, ends_in_3, in_span, is_sorted}
use Rattle.key_spans.specs.declared.KeySpan.{KeySpan}
use Rattle.key_spans.proofs.Keys.{key_end}
use Rattle.key_spans.proofs.Line as line
use Rattle.key_spans.proofs.Line.{and_first, and_second, by_bool}
use Rattle.key_spans.proofs.OneSet.{Split, all_unflagged, bare, canonical_from, none_in, sorted_back, sorted_front, split}
use Rattle.key_spans.proofs.Pieces.{in_flagged, is_sorted-pieces}
use Rattle.key_spans.proofs.Unique.{none_upto}

-- ---- lists of which a test finds one element, or none

kept : {X : Type 0} (b : Bool) (x : X) (l : List X) → (b ≡ true → l ≡ []) → length l ≤ 1 → length (cond b (x ∷ l) l) ≤ 1
kept true x l h g = subst (λ m. length (x ∷ m) ≤ 1) (sym (h refl)) (omega arith)
kept false x l h g = g

none_kept : {X : Type 0} (b : Bool) (x : X) (l : List X) → b ≡ false → l ≡ [] → cond b (x ∷ l) l ≡ []
none_kept true x l h g = absurd (true≢false h)
none_kept false x l h g = g

filter_none : {X : Type 0} (p : X → Bool) (xs : List X) → list_any p xs ≡ false → filter p xs ≡ []
filter_none p [] h = refl
filter_none p (x ∷ xs) h = none_kept (p x) x (filter p xs) (or_parts (p x) _ h).0 (filter_none p xs (or_parts (p x) _ h).1)

same_length : {X Y : Type 0} (b : Bool) (x : X) (y : Y) (l : List X) (m : List Y) → length l ≡ length m
    → length (cond b (x ∷ l) l) ≡ length (cond b (y ∷ m) m)
same_length true x y l m h = omega (arith, h)
same_length false x y l m h = h

-- ---- of one kind

abbrev found : List ℕ → List Piece → List Piece
found k ps = filter (λ s. in_piece s k) ps

-- the place p is not before k: what begins past p does not hold k
none_past : (flag : Bool) (s : Stretch (List ℕ)) (ss : List (Stretch (List ℕ))) (k : List ℕ) → is_past (slice_cmp nat_cmp) s.stop ss ≡ true
    → in_piece (flagged flag s) k ≡ true → found k (all_flagged flag ss) ≡ []
none_past flag s ss k h e =
    let held : holds (slice_cmp nat_cmp) s k ≡ true = and_first (holds (slice_cmp nat_cmp) s k) _ e in
    let under : is_lt (slice_cmp nat_cmp k s.stop) ≡ true = and_second (is_le (slice_cmp nat_cmp s.start k)) _ held in
    let none : has (slice_cmp nat_cmp) ss k ≡ false = none_upto nat_list_cmp_total s.stop ss h k (line.le_from_lt nat_list_cmp_total k s.stop under) in
    filter_none (λ t. in_piece t k) (all_flagged flag ss) (in_flagged flag ss k ∙ ap (λ b. b && (not flag || ends_in_3 k)) none)

one_past : (flag : Bool) (p : List ℕ) (ss : List (Stretch (List ℕ))) (k : List ℕ) → is_past (slice_cmp nat_cmp) p ss ≡ true
    → length (found k (all_flagged flag ss)) ≤ 1
one_past flag p [] k h = omega arith
one_past flag p (s ∷ ss) k h =
    let more : is_past (slice_cmp nat_cmp) s.stop ss ≡ true = and_second (is_lt (slice_cmp nat_cmp s.start s.stop)) _
    (and_second (is_lt (slice_cmp nat_cmp p s.start)) _ h) in
    kept (in_piece (flagged flag s) k) (flagged flag s) (found k (all_flagged flag ss)) (none_past flag s ss k more)
    (one_past flag s.stop ss k more)

one_found : (flag : Bool) (ss : List (Stretch (List ℕ))) (k : List ℕ) → is_canonical (slice_cmp nat_cmp) ss ≡ true
    → length (found k (all_flagged flag ss)) ≤ 1
one_found flag [] k h = omega arith
one_found flag (s ∷ ss) k h =
    let more : is_past (slice_cmp nat_cmp) s.stop ss ≡ true = and_second (is_lt (slice_cmp nat_cmp s.start s.stop)) _ h in
    kept (in_piece (flagged flag s) k) (flagged flag s) (found k (all_flagged flag ss)) (none_past flag s ss k more)
    (one_past flag s.stop ss k more)

-- ---- of both kinds

one_by_gate : (ps : List Piece) → are_sorted ps ≡ true → All (PieceEnds false) ps → (v : VersionValue) → IsVersion v
    → length (found (key v) ps) ≤ 1
one_by_gate ps h g v k =
    let s : Split ps = split ps h g in
    let front : List Piece = all_flagged true s.front in
    let back : List Piece = all_flagged false s.back in
    let sorted : are_sorted (front ++ back) ≡ true = ap are_sorted (sym s.whole) ∙ h in
    let both : found (key v) ps ≡ found (key v) front ++ found (key v) back =
    ap (found (key v)) s.whole ∙ filter-append (λ t. in_piece t (key v)) front back in
    by_bool (is_release v)
    (λ r.
    let none : found (key v) back ≡ [] = filter_none (λ t. in_piece t (key v)) back
    (in_flagged false s.back (key v) ∙ ap (λ b. b && (true || ends_in_3 (key v))) (none_in s.back v s.others k r)) in
    subst (λ l. length l ≤ 1) (sym (both ∙ (ap (λ l. found (key v) front ++ l) none ∙ append-nil _)))
    (one_found true s.front (key v) (canonical_from true s.front (sorted_front front back sorted))))
    (λ r.
    let none : found (key v) front ≡ [] = filter_none (λ t. in_piece t (key v)) front
    (in_flagged true s.front (key v) ∙ and_right (has (slice_cmp nat_cmp) s.front (key v)) (ends_in_3 (key v)) (key_end v ∙ r)) in
    subst (λ l. length l ≤ 1) (sym (both ∙ ap (λ l. l ++ found (key v) back) none))
    (one_found false s.back (key v) (canonical_from false s.back (sorted_back front back sorted))))

one_of_all : (ps : List Piece) → are_sorted ps ≡ true → All (PieceEnds true) ps → (v : VersionValue) → IsVersion v
    → length (found (key v) ps) ≤ 1
one_of_all ps h g v k =
    let plain : ps ≡ all_flagged false (map bare ps) = all_unflagged ps g in
    subst (λ l. length (found (key v) l) ≤ 1) (sym plain)
    (one_found false (map bare ps) (key v) (canonical_from false (map bare ps) (ap are_sorted (sym plain) ∙ h)))

one_by : (include : Bool) (ps : List Piece) → are_sorted ps ≡ true → All (PieceEnds include) ps → (v : VersionValue) → IsVersion v
    → length (found (key v) ps) ≤ 1
one_by true = one_of_all
one_by false = one_by_gate

found-pieces : (spans : List KeySpan) (k : List ℕ) → length (filter (λ s. in_span s k) spans) ≡ length (found k (pieces spans))
found-pieces [] k = refl
found-pieces (s ∷ spans) k = same_length (in_span s k) s (piece s) (filter (λ t. in_span t k) spans) (found k (pieces spans)) (found-pieces spans k)

pub one_span : (include : Bool) (spans : List KeySpan) → is_sorted spans ≡ true → All (HasEnds include) spans
    → (v : VersionValue) → IsVersion v → length (filter (λ s. in_span s (key v)) spans) ≤ 1
one_span include spans h g v k = subst (λ n. n ≤ 1) (sym (found-pieces spans (key v)))
    (one_by include (pieces spans) (sym (is_sorted-pieces spans) ∙ h) (All-map (PieceEnds include) piece spans g) v k)
