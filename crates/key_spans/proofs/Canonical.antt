-- Lists of spans whose ends are those of the statement, as placed stretches of each kind.
use Rattle.std.proofs.Common.{ℕ, ◌≡◌, ◌++◌, ◌∷◌, ◌&&◌, ◌⊎◌, List, [], true, false, not, refl, ap, ◌∙◌, sym, subst, true≢false, inl, inr}
use Rattle.std.proofs.lemmas.Bool.{not-true}
use Rattle.std.specs.Prelude.{All}
use Rattle.std.proofs.lemmas.List.Elements.{All-cons, All-head, All-nil, All-tail}
use Rattle.std.specs.Cmp.Lexicographic.{nat_list_cmp_total, slice_cmp}
use Rattle.std.specs.Ordering.{is_le, is_lt, nat_cmp}
use Rattle.semver_core.specs.Keys.{key, number_key, pre_key}
use Rattle.semver_core.specs.Lists.{is_empty}
use Rattle.semver_core.specs.Text.Identifiers.{Id}
use Rattle.semver_core.specs.Values.Versions.{IsVersion, VersionValue, is_release, release_value}
use Rattle.key_spans.specs.Internal.Pieces.{PieceEnds, all_flagged, flagged}
use Rattle.key_spans.specs.Internal.Sets.{Stretch, is_canonical, is_past}
use Rattle.key_spans.proofs.IsPlaced.{IsPlaced}
use Rattle.key_spans.proofs.Keys.{le, lt, same}
use Rattle.key_spans.proofs.Line as line
use Rattle.key_spans.proofs.Line.{and_first, and_second, by_bool}
use Rattle.key_spans.proofs.OneList.{IsAny, IsKeyOf, IsKeyPlace, IsRelease, LastEnd, at_most_end}
use Rattle.key_spans.proofs.OnePreList.{Ends, IsPreKey, Three, before_end, first_key, inside, is_inside, last_key, same_end, same_from, three_from}
use Rattle.key_spans.proofs.Releases.{release_is}

abbrev pub AnyPlaced : Stretch (List ℕ) → Type 0
AnyPlaced = IsPlaced (slice_cmp nat_cmp) (IsKeyOf IsAny) (LastEnd IsAny)

abbrev pub ReleasePlaced : Stretch (List ℕ) → Type 0
ReleasePlaced = IsPlaced (slice_cmp nat_cmp) (IsKeyOf IsRelease) (LastEnd IsRelease)

abbrev pub PrePlaced : Stretch (List ℕ) → Type 0
PrePlaced = IsPlaced (slice_cmp nat_cmp) IsPreKey Ends

pub false_not_true : {C : Type 0} → false ≡ true → C
false_not_true h = absurd (true≢false (sym h))

-- ---- from the statement

within_end : (Q : VersionValue → Type 0) (s : Stretch (List ℕ)) → IsKeyPlace Q s.stop
    → (e : List ℕ) → LastEnd Q s.start e → is_le (slice_cmp nat_cmp s.stop e) ≡ true
within_end Q s p e u = subst (λ l. is_le (slice_cmp nat_cmp s.stop l) ≡ true) (sym u) (at_most_end Q s.stop p)

pub any_placed : (s : Stretch (List ℕ)) → PieceEnds true (flagged false s) → AnyPlaced s
any_placed s h =
    let last : IsKeyPlace IsAny s.stop = elim h.at_last [ inl u ↦ inl (u.0, u.1, refl, u.2) | inr u ↦ inr u.0 ] in
    record { start = (h.first, h.is_version, refl, h.at_first); stop = last; within = within_end IsAny s last }

pub release_placed : (s : Stretch (List ℕ)) → PieceEnds false (flagged true s) → ReleasePlaced s
release_placed s h =
    let last : IsKeyPlace IsRelease s.stop = elim h.at_last [ inl u ↦ inl (u.0, u.1, u.3, u.2) | inr u ↦ inr u.0 ] in
    record { start = (h.first, h.is_version, h.fits_first, h.at_first); stop = last; within = within_end IsRelease s last }

pub empty_nil : (xs : List Id) → is_empty xs ≡ true → xs ≡ []
empty_nil [] h = refl
empty_nil (x ∷ xs) h = false_not_true h

pub release_last : (w : VersionValue) → is_release w ≡ true → key w ≡ last_key w
release_last w h = ap (λ l. number_key w.major ++ (number_key w.minor ++ (number_key w.patch ++ pre_key l))) (empty_nil w.pre_release h)

pub own_three : (u : VersionValue) → Three u u
own_three u = record { major = refl; minor = refl; patch = refl }

-- the end of the part in which a pre-release lies
pub own_ends : (u : VersionValue) → IsVersion u → is_release u ≡ false → Ends (key u) (last_key u)
own_ends u k r =
    let own : (le (first_key u) (key u) && lt (key u) (last_key u)) ≡ true = is_inside u u k k r (own_three u) in
    record { of = u; is_version = k; from = and_first _ _ own; upto = and_second (le (first_key u) (key u)) _ own; is = refl }

-- and the only one
pub end_of : (u : VersionValue) → IsVersion u → (e : List ℕ) → Ends (key u) e → e ≡ last_key u
end_of u k e g = g.is ∙ same_end g.of u (inside g.of u g.is_version k g.from g.upto).1

pub upto_last : (u w : VersionValue) → IsVersion u → IsVersion w → Three u w → le (key w) (last_key u) ≡ true
upto_last u w h k t = by_bool (is_release w)
    (λ r. subst (λ l. le l (last_key u) ≡ true) (sym (release_last w r ∙ sym (same_end u w t))) (line.le_itself nat_list_cmp_total (last_key u)))
    (λ r. line.le_from_lt nat_list_cmp_total (key w) (last_key u) (and_second (le (first_key u) (key w)) _ (is_inside u w h k r t)))

pre_stop : (u w : VersionValue) → IsVersion u → is_release u ≡ false → IsVersion w → Three u w
    → IsPreKey (key w) ⊎ Ends (key u) (key w)
pre_stop u w h r k t = by_bool (is_release w)
    (λ e. inr (subst (Ends (key u)) (sym (release_last w e ∙ sym (same_end u w t))) (own_ends u h r)))
    (λ e. inl (w, k, e, refl))

pre_placed_by : (s : Stretch (List ℕ)) (u w : VersionValue) → IsVersion u → is_release u ≡ false → IsVersion w → Three u w
    → s.start ≡ key u → s.stop ≡ key w → PrePlaced s
pre_placed_by s u w h r k t a b = record {
  start = (u, h, r, a);
  stop = subst (λ l. IsPreKey s.stop ⊎ Ends l s.stop) (sym a) (subst (λ l. IsPreKey l ⊎ Ends (key u) l) (sym b) (pre_stop u w h r k t));
  within = λ e g. subst (λ l. le l e ≡ true) (sym b)
      (subst (λ l. le (key w) l ≡ true) (sym (end_of u h e (subst (λ l. Ends l e) a g))) (upto_last u w h k t));
}

pub pre_placed : (s : Stretch (List ℕ)) → PieceEnds false (flagged false s) → PrePlaced s
pre_placed s h = elim h.at_last [
  | inl u ↦ pre_placed_by s h.first u.0 h.is_version (not-true _ h.fits_first) u.1 (three_from h.first u.0 u.3) h.at_first u.2
  | inr u ↦ false_not_true u.1
]

-- ---- to the statement

pub any_ends : (s : Stretch (List ℕ)) → AnyPlaced s → PieceEnds true (flagged false s)
any_ends s p = record {
  first = p.start.0;
  is_version = p.start.1;
  at_first = p.start.3;
  fits_first = refl;
  at_last = elim p.stop [ inl u ↦ inl (u.0, u.1, u.3, refl) | inr u ↦ inr (u, refl) ];
}

pub release_ends : (s : Stretch (List ℕ)) → ReleasePlaced s → PieceEnds false (flagged true s)
release_ends s p = record {
  first = p.start.0;
  is_version = p.start.1;
  at_first = p.start.3;
  fits_first = p.start.2;
  at_last = elim p.stop [ inl u ↦ inl (u.0, u.1, u.3, u.2) | inr u ↦ inr (u, refl) ];
}

-- a pre-release behind another one, and not behind the end of its part
near : (u w : VersionValue) → IsVersion u → is_release u ≡ false → IsVersion w → is_release w ≡ false
    → lt (key u) (key w) ≡ true → le (key w) (last_key u) ≡ true → same u w ≡ true
near u w h r k q l m =
    let own : (le (first_key u) (key u) && lt (key u) (last_key u)) ≡ true = is_inside u u h h r (own_three u) in
    let over : le (first_key u) (key w) ≡ true = line.le_le nat_list_cmp_total (first_key u) (key u) (key w) (and_first _ _ own)
    (line.le_from_lt nat_list_cmp_total (key u) (key w) l) in
    same_from u w (inside u w h k over (before_end w u k h q m)).1

pub pre_ends : (s : Stretch (List ℕ)) → PrePlaced s → is_lt (slice_cmp nat_cmp s.start s.stop) ≡ true → PieceEnds false (flagged false s)
pre_ends s p full = record {
  first = p.start.0;
  is_version = p.start.1;
  at_first = p.start.3;
  fits_first = ap not p.start.2;
  at_last = elim p.stop [
    | inl w ↦ inl (
      w.0,
      w.1,
      w.3,
      near p.start.0 w.0 p.start.1 p.start.2 w.1 w.2
          (subst (λ l. lt l (key w.0) ≡ true) p.start.3 (subst (λ l. lt s.start l ≡ true) w.3 full))
          (subst (λ l. le l (last_key p.start.0) ≡ true) w.3 (p.within (last_key p.start.0)
          (subst (λ l. Ends l (last_key p.start.0)) (sym p.start.3) (own_ends p.start.0 p.start.1 p.start.2)))),
    )
    | inr g ↦ inl (
      release_value p.start.0.major p.start.0.minor p.start.0.patch,
      release_is p.start.0.major p.start.0.minor p.start.0.patch p.start.1.major p.start.1.minor p.start.1.patch,
      end_of p.start.0 p.start.1 s.stop (subst (λ l. Ends l s.stop) p.start.3 g),
      same_from p.start.0 (release_value p.start.0.major p.start.0.minor p.start.0.patch) (record { major = refl; minor = refl; patch = refl }),
    )
  ];
}

-- the same of lists
some_first : (p : List ℕ) (s : Stretch (List ℕ)) (ss : List (Stretch (List ℕ))) → is_past (slice_cmp nat_cmp) p (s ∷ ss) ≡ true
    → is_lt (slice_cmp nat_cmp s.start s.stop) ≡ true
some_first p s ss h = and_first _ _ (and_second (is_lt (slice_cmp nat_cmp p s.start)) _ h)

pre_past_ends : (p : List ℕ) (ss : List (Stretch (List ℕ))) → is_past (slice_cmp nat_cmp) p ss ≡ true → All PrePlaced ss
    → All (PieceEnds false) (all_flagged false ss)
pre_past_ends p [] h q = All-nil (PieceEnds false)
pre_past_ends p (s ∷ ss) h q = All-cons (PieceEnds false) (flagged false s) (all_flagged false ss)
    (pre_ends s (All-head PrePlaced s ss q) (some_first p s ss h))
    (pre_past_ends s.stop ss (and_second (is_lt (slice_cmp nat_cmp s.start s.stop)) _ (and_second (is_lt (slice_cmp nat_cmp p s.start)) _ h))
    (All-tail PrePlaced s ss q))

pub all_pre_ends : (ss : List (Stretch (List ℕ))) → is_canonical (slice_cmp nat_cmp) ss ≡ true → All PrePlaced ss
    → All (PieceEnds false) (all_flagged false ss)
all_pre_ends [] h q = All-nil (PieceEnds false)
all_pre_ends (s ∷ ss) h q = All-cons (PieceEnds false) (flagged false s) (all_flagged false ss)
    (pre_ends s (All-head PrePlaced s ss q) (and_first _ _ h))
    (pre_past_ends s.stop ss (and_second (is_lt (slice_cmp nat_cmp s.start s.stop)) _ h) (All-tail PrePlaced s ss q))

pub all_release_ends : (ss : List (Stretch (List ℕ))) → All ReleasePlaced ss → All (PieceEnds false) (all_flagged true ss)
all_release_ends [] q = All-nil (PieceEnds false)
all_release_ends (s ∷ ss) q = All-cons (PieceEnds false) (flagged true s) (all_flagged true ss)
    (release_ends s (All-head ReleasePlaced s ss q)) (all_release_ends ss (All-tail ReleasePlaced s ss q))

pub all_any_ends : (ss : List (Stretch (List ℕ))) → All AnyPlaced ss → All (PieceEnds true) (all_flagged false ss)
all_any_ends [] q = All-nil (PieceEnds true)
all_any_ends (s ∷ ss) q = All-cons (PieceEnds true) (flagged false s) (all_flagged false ss)
    (any_ends s (All-head AnyPlaced s ss q)) (all_any_ends ss (All-tail AnyPlaced s ss q))
