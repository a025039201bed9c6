-- One canonical list for one set of pre-releases: the line of keys is in parts, the pre-releases of three numbers.
use Rattle.std.proofs.Common.{ℕ, ◌≡◌, ◌∷◌, ◌&&◌, ◌⊎◌, List, [], Bool, true, false, not, refl, ap, ◌∙◌, sym, subst, inl, inr}
use Rattle.std.specs.Prelude.{◌==◌, All, if◌then◌else◌}
use Rattle.std.proofs.Common.{eq-eqb}
use Rattle.std.proofs.lemmas.Bool.{and_from, eqb-true, not-true}
use Rattle.std.proofs.lemmas.List.Elements.{All-append, All-cons, All-head, All-nil, All-tail}
use Rattle.std.specs.Cmp.Lexicographic.{nat_list_cmp_total, slice_cmp}
use Rattle.std.specs.Ordering.{nat_cmp}
use Rattle.key_spans.specs.Internal.Places.{IsEnd, IsSpan, bound_stretch, end_key, greater, lesser, lowest_key, one_more, pre_place}
use Rattle.key_spans.specs.Internal.Places.{pre_releases, pre_stretches, release_key}
use Rattle.key_spans.specs.Internal.Sets.{Stretch}
use Rattle.key_spans.specs.Spans.{ends_in_3}
use Rattle.key_spans.proofs.AllVersions.{lowest_is}
use Rattle.key_spans.proofs.Bytes.{same_bytes}
use Rattle.key_spans.proofs.IsPlaced.{IsParted}
use Rattle.key_spans.proofs.Keys as of_keys
use Rattle.key_spans.proofs.Keys.{le, lt, same}
use Rattle.key_spans.proofs.Line as line
use Rattle.key_spans.proofs.Line.{and_first, and_second, by_bool, false_true}
use Rattle.key_spans.proofs.OneList.{Fits}
use Rattle.key_spans.proofs.PreReleases.{more_is}
use Rattle.key_spans.proofs.Releases.{end_past, release_is}
use Rattle.semver_core.specs.Cuts.{Span}
use Rattle.semver_core.specs.Keys.{key}
use Rattle.semver_core.specs.Values.Versions.{IsVersion, VersionValue, is_release, lowest, release_value}
use Rattle.semver_core.specs.declared.cuts.bound.Bound.{Bound}
use Rattle.semver_core.specs.declared.cuts.bound.Bound.TheVariants.{Unbounded, Before, After}

-- two versions of the same numbers
pub record Three (w v : VersionValue) : Type 0 where
  pub major : w.major ≡ v.major
  pub minor : w.minor ≡ v.minor
  pub patch : w.patch ≡ v.patch

pub three_from : (w v : VersionValue) → same w v ≡ true → Three w v
three_from w v h = record {
  major = eqb-true w.major v.major (and_first _ _ h);
  minor = eqb-true w.minor v.minor (and_first _ _ (and_second (w.major == v.major) _ h));
  patch = eqb-true w.patch v.patch (and_second (w.minor == v.minor) _ (and_second (w.major == v.major) _ h));
}

pub same_from : (w v : VersionValue) → Three w v → same w v ≡ true
same_from w v h = and_from _ _ (eq-eqb w.major v.major h.major)
    (and_from _ _ (eq-eqb w.minor v.minor h.minor) (eq-eqb w.patch v.patch h.patch))

pub three_through : (u v w : VersionValue) → Three u v → Three v w → Three u w
three_through u v w h g = record { major = h.major ∙ g.major; minor = h.minor ∙ g.minor; patch = h.patch ∙ g.patch }

pub three_back : (u v : VersionValue) → Three u v → Three v u
three_back u v h = record { major = sym h.major; minor = sym h.minor; patch = sym h.patch }

-- the end of the pre-releases of the numbers of a version: the key of the release
abbrev pub last_key : VersionValue → List ℕ
last_key w = release_key w.major w.minor w.patch

abbrev pub first_key : VersionValue → List ℕ
first_key w = lowest_key w.major w.minor w.patch

pub same_end : (w v : VersionValue) → Three w v → last_key w ≡ last_key v
same_end w v h = λ i. release_key (h.major i) (h.minor i) (h.patch i)

-- what lies from the first key of some numbers up to their end
pub inside : (w v : VersionValue) → IsVersion w → IsVersion v → le (first_key w) (key v) ≡ true → lt (key v) (last_key w) ≡ true
    → (is_release v ≡ false) × Three w v
inside w v h k f l =
    let both : (not (is_release v) && same w v) ≡ true = sym (of_keys.own_holds w v h k) ∙ and_from _ _ f l in
    (not-true (is_release v) (and_first _ _ both), three_from w v (and_second (not (is_release v)) _ both))

pub is_inside : (w v : VersionValue) → IsVersion w → IsVersion v → is_release v ≡ false → Three w v
    → (le (first_key w) (key v) && lt (key v) (last_key w)) ≡ true
is_inside w v h k r t = of_keys.own_holds w v h k ∙ and_from _ _ (ap not r) (same_from w v t)

abbrev pub IsPreKey : List ℕ → Type 0
IsPreKey k = (v : VersionValue) × IsVersion v × (is_release v ≡ false) × (k ≡ key v)

pub record Ends (a e : List ℕ) : Type 0 where
  pub of : VersionValue
  pub is_version : IsVersion of
  pub from : le (first_key of) a ≡ true
  pub upto : lt a (last_key of) ≡ true
  pub is : e ≡ last_key of

-- a pre-release that is not past the end is before it
pub before_end : (b u : VersionValue) → IsVersion b → IsVersion u → is_release b ≡ false → le (key b) (last_key u) ≡ true
    → lt (key b) (last_key u) ≡ true
before_end b u h k r l = by_bool (le (last_key u) (key b))
    (λ g. let e : key b ≡ last_key u = same_bytes (key b) (last_key u) (line.tied nat_list_cmp_total (key b) (last_key u) l g) in
    false_true (is_release b) r (sym (of_keys.key_end b) ∙ (ap ends_in_3 e ∙ of_keys.key_end (release_value u.major u.minor u.patch))))
    (line.lt_from_not nat_list_cmp_total (key b) (last_key u))

pub parted : IsParted (slice_cmp nat_cmp) IsPreKey Ends
parted = record {
  same = λ a b e p q up reach.
      let own : (le (first_key p.0) (key p.0) && lt (key p.0) (last_key p.0)) ≡ true = is_inside p.0 p.0 p.1 p.1 p.2
      (record { major = refl; minor = refl; patch = refl }) in
      let until : le (key q.0) (last_key p.0) ≡ true = subst (λ l. le l (last_key p.0) ≡ true) q.3 (reach (last_key p.0) (record {
        of = p.0;
        is_version = p.1;
        from = subst (λ l. le (first_key p.0) l ≡ true) (sym p.3) (and_first _ _ own);
        upto = subst (λ l. lt l (last_key p.0) ≡ true) (sym p.3) (and_second (le (first_key p.0) (key p.0)) _ own);
        is = refl;
      })) in
      let over : le (key p.0) (key q.0) ≡ true = subst (λ l. le l (key q.0) ≡ true) p.3 (subst (λ l. le a l ≡ true) q.3 up) in
      let there = inside p.0 q.0 p.1 q.1 (line.le_le nat_list_cmp_total (first_key p.0) (key p.0) (key q.0) (and_first _ _ own) over)
      (before_end q.0 p.0 q.1 p.1 q.2 until) in
      (moved a b e p q there.1, moved b a e q p (three_back p.0 q.0 there.1));
}
  where
    moved : (a b e : List ℕ) (p : IsPreKey a) (q : IsPreKey b) → Three p.0 q.0 → Ends a e → Ends b e
    moved a b e p q t g =
        let at = inside g.of p.0 g.is_version p.1 (subst (λ l. le (first_key g.of) l ≡ true) p.3 g.from) (subst (λ l. lt l (last_key g.of) ≡ true) p.3 g.upto) in
        let now : (le (first_key g.of) (key q.0) && lt (key q.0) (last_key g.of)) ≡ true =
        is_inside g.of q.0 g.is_version q.1 q.2 (three_through g.of p.0 q.0 at.1 t) in
        record {
          of = g.of;
          is_version = g.is_version;
          from = subst (λ l. le (first_key g.of) l ≡ true) (sym q.3) (and_first _ _ now);
          upto = subst (λ l. lt l (last_key g.of) ≡ true) (sym q.3) (and_second (le (first_key g.of) (key q.0)) _ now);
          is = g.is;
        }

-- ---- the places of the spans

abbrev pub AnyStart : List ℕ → Type 0
AnyStart k = ((u : VersionValue) × IsVersion u × (k ≡ key u)) ⊎ (k ≡ [])

abbrev pub AnyStop : List ℕ → Type 0
AnyStop k = ((u : VersionValue) × IsVersion u × (k ≡ key u)) ⊎ (k ≡ end_key)

-- the least pre-release of some numbers
pub least_key : (w : VersionValue) → IsVersion w → IsPreKey (first_key w)
least_key w h = (lowest w.major w.minor w.patch, lowest_is w.major w.minor w.patch h.major h.minor h.patch, refl, refl)

-- the greater of a start and the first key, if it is below the end
start_key_by : (t : Bool) (k : List ℕ) (w : VersionValue) → le k (first_key w) ≡ t → IsVersion w → AnyStart k
    → lt (if t then first_key w else k) (last_key w) ≡ true
    → IsPreKey (if t then first_key w else k) × (le (first_key w) (if t then first_key w else k) ≡ true)
start_key_by true k w e h s l = (least_key w h, line.le_itself nat_list_cmp_total (first_key w))
start_key_by false k w e h s l =
    let up : le (first_key w) k ≡ true = of_keys.le_total k (first_key w) e in (
      elim s [
        | inl u ↦ (u.0, u.1, (inside w u.0 h u.1 (subst (λ x. le (first_key w) x ≡ true) u.2 up) (subst (λ x. lt x (last_key w) ≡ true) u.2 l)).0, u.2)
        | inr u ↦ false_true (le k (first_key w)) e (subst (λ x. le x (first_key w) ≡ true) (sym u) (of_keys.empty_least (first_key w)))
      ],
      up,
    )

-- the lesser of a stop and the end, if it is above a start of these numbers
stop_key_by : (t : Bool) (a k : List ℕ) (w : VersionValue) → le k (last_key w) ≡ t → IsVersion w → AnyStop k
    → le (first_key w) a ≡ true → lt a (if t then k else last_key w) ≡ true → lt a (last_key w) ≡ true
    → IsPreKey (if t then k else last_key w) ⊎ Ends a (if t then k else last_key w)
stop_key_by false a k w e h s f l m = inr (record { of = w; is_version = h; from = f; upto = m; is = refl })
stop_key_by true a k w e h s f l m = elim s [
  | inl u ↦ by_bool (le (last_key w) k)
      (λ g. inr (record {
        of = w;
        is_version = h;
        from = f;
        upto = m;
        is = same_bytes k (last_key w) (line.tied nat_list_cmp_total k (last_key w) e g);
      }))
      (λ g. inl (
        u.0,
        u.1,
        (inside w u.0 h u.1
            (subst (λ x. le (first_key w) x ≡ true) u.2 (line.le_le nat_list_cmp_total (first_key w) a k f (line.le_from_lt nat_list_cmp_total a k l)))
            (subst (λ x. lt x (last_key w) ≡ true) u.2 (line.lt_from_not nat_list_cmp_total k (last_key w) g))).0,
        u.2,
      ))
  | inr u ↦ false_true (le k (last_key w))
      (subst (λ x. le x (last_key w) ≡ false) (sym u)
      (end_past (release_value w.major w.minor w.patch) (release_is w.major w.minor w.patch h.major h.minor h.patch))) e
]

lesser_upto : (t : Bool) (k e : List ℕ) → le k e ≡ t → le (if t then k else e) e ≡ true
lesser_upto true k e h = h
lesser_upto false k e h = line.le_itself nat_list_cmp_total e

pub own_fits : (start stop : List ℕ) (w : VersionValue) → IsVersion w → AnyStart start → AnyStop stop
    → Fits IsPreKey Ends (record { start = greater start (first_key w); stop = lesser stop (last_key w) })
own_fits start stop w h s t full =
    let a : List ℕ = greater start (first_key w) in
    let b : List ℕ = lesser stop (last_key w) in
    let upto : le b (last_key w) ≡ true = lesser_upto (le stop (last_key w)) stop (last_key w) refl in
    let below : lt a (last_key w) ≡ true = line.lt_before_le nat_list_cmp_total a b (last_key w) full upto in
    let first = start_key_by (le start (first_key w)) start w refl h s below in
    record {
      start = first.0;
      stop = stop_key_by (le stop (last_key w)) a stop w refl h t first.1 full below;
      within = λ e g.
          let at = inside g.of first.0.0 g.is_version first.0.1 (subst (λ l. le (first_key g.of) l ≡ true) first.0.3 g.from)
          (subst (λ l. lt l (last_key g.of) ≡ true) first.0.3 g.upto) in
          let here = inside w first.0.0 h first.0.1 (subst (λ l. le (first_key w) l ≡ true) first.0.3 first.1)
          (subst (λ l. lt l (last_key w) ≡ true) first.0.3 below) in
          subst (λ l. le b l ≡ true) (same_end w g.of (three_through w first.0.0 g.of here.1 (three_back g.of first.0.0 at.1)) ∙ sym g.is) upto;
    }

abbrev pub FitsPre : Stretch (List ℕ) → Type 0
FitsPre = Fits IsPreKey Ends

own_all : (t : Bool) (start stop : List ℕ) (w : VersionValue) → IsVersion w → AnyStart start → AnyStop stop
    → All FitsPre (if t then [] else record { start = greater start (first_key w); stop = lesser stop (last_key w) } ∷ [])
own_all true start stop w h s t = All-nil FitsPre
own_all false start stop w h s t = All-cons FitsPre _ [] (own_fits start stop w h s t) (All-nil FitsPre)

bound_all : (start stop : List ℕ) (b : Bound VersionValue) → IsEnd b → AnyStart start → AnyStop stop → All FitsPre (bound_stretch start stop b)
bound_all start stop Unbounded h s t = All-nil FitsPre
bound_all start stop (Before w) h s t = own_all (is_release w) start stop w h s t
bound_all start stop (After w) h s t = own_all (is_release w) start stop w h s t

after_any : (b : Bool) (w : VersionValue) → IsVersion w → (u : VersionValue) × IsVersion u × ((if b then key w else key (one_more w)) ≡ key u)
after_any true w h = (w, h, refl)
after_any false w h = (one_more w, more_is w h, refl)

pub start_any : (b : Bound VersionValue) → IsEnd b → AnyStart (pre_place b [])
start_any Unbounded h = inr refl
start_any (Before w) h = inl (w, h, refl)
start_any (After w) h = inl (after_any (is_release w) w h)

pub stop_any : (b : Bound VersionValue) → IsEnd b → AnyStop (pre_place b (end_key))
stop_any Unbounded h = inr refl
stop_any (Before w) h = inl (w, h, refl)
stop_any (After w) h = inl (after_any (is_release w) w h)

span_all : (s : Span VersionValue) → IsSpan s → All FitsPre (pre_stretches s)
span_all s h = All-append FitsPre (bound_stretch (pre_place s.lower []) (pre_place s.upper end_key) s.lower)
    (bound_stretch (pre_place s.lower []) (pre_place s.upper end_key) s.upper)
    (bound_all _ _ s.lower h.lower (start_any s.lower h.lower) (stop_any s.upper h.upper))
    (bound_all _ _ s.upper h.upper (start_any s.lower h.lower) (stop_any s.upper h.upper))

pub pre_releases_fit : (ss : List (Span VersionValue)) → All IsSpan ss → All FitsPre (pre_releases ss)
pre_releases_fit [] h = All-nil FitsPre
pre_releases_fit (s ∷ ss) h = All-append FitsPre (pre_stretches s) (pre_releases ss) (span_all s (All-head IsSpan s ss h))
    (pre_releases_fit ss (All-tail IsSpan s ss h))
