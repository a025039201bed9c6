-- The spans of what a range accepts: the bounds of their intervals are such as a range may have.
use Rattle.std.proofs.Common.{ℕ, ◌≡◌, ◌≤◌, ◌^◌, ◌+◌, ◌-◌, ◌∷◌, ◌&&◌, ◌⊎◌, List, [], Bool, true, false, not, refl, ap, arith, ◌∙◌, sym, subst, inl, inr}
use Rattle.std.proofs.lemmas.Bool.{and_from, and_parts, lt-ltb}
use borrow.Author.Tests.{le-leb, ltb-false}
use Rattle.std.proofs.lemmas.List.Elements.{All-append, All-cons, All-head, All-nil, All-tail}
use Rattle.std.proofs.lemmas.List.Folds.{list_all-append}
use Rattle.std.specs.Cmp.{Equal-is, tied_itself}
use Rattle.std.specs.Cmp.Lexicographic.{nat_list_cmp_total, slice_cmp}
use Rattle.std.specs.List.{list_all}
use Rattle.std.specs.Ordering.{is_eq, is_le, nat_cmp}
use Rattle.std.specs.Prelude.{All, None, Option, Some, if◌then◌else◌, nat_lt, ⊤}
use Rattle.semver_core.specs.Cuts.{Span, is_interval}
use Rattle.semver_core.specs.Internal.OrderLaws.{precedence_total}
use Rattle.semver_core.specs.Internal.Readable.{readable}
use Rattle.semver_core.specs.Keys.{key}
use Rattle.semver_core.specs.Printing.RoundTrip.{is_normal, is_readable}
use Rattle.semver_core.specs.Text.Identifiers.{Numeric}
use Rattle.semver_core.specs.Values.Gate.{is_range_bound}
use Rattle.semver_core.specs.Values.Order.{precedence}
use Rattle.semver_core.specs.Values.Versions.{IsVersion, VersionValue, is_release, lowest, release_value}
use Rattle.semver_core.specs.declared.TheConstants.{MAX_SAFE_INTEGER}
use Rattle.semver_core.specs.declared.cuts.bound.Bound.{Bound}
use Rattle.semver_core.specs.declared.cuts.bound.Bound.TheVariants.{Unbounded, Before, After}
use Rattle.key_spans.specs.Internal.Places.{IsEnd, IsSpan, bound_stretch, end_key, greater, lesser, lowest_key, next_numbers, next_place, numbers_place, one_more}
use Rattle.key_spans.specs.Internal.Places.{pre_place, pre_releases, pre_stretches, release_key, release_place, release_stretch, releases, version_place, version_stretch, versions}
use Rattle.key_spans.specs.Internal.Sets.{Stretch}
use Rattle.key_spans.specs.Ranges.{IsKeyOf, IsStop, bound_at, have_one_triple, interval_of, is_next}
use Rattle.key_spans.specs.Spans.{begins}
use Rattle.key_spans.proofs.AllVersions.{lowest_is}
use Rattle.key_spans.proofs.Canonical.{empty_nil, end_of, false_not_true}
use Rattle.key_spans.proofs.Intervals.{StopsAt, not_end, own_interval, release_of, same_parts}
use Rattle.key_spans.proofs.IsPlaced.{IsParted, IsPlaced}
use Rattle.key_spans.proofs.Keys as of_keys
use Rattle.key_spans.proofs.Keys.{le, lt}
use Rattle.key_spans.proofs.Line as line
use Rattle.key_spans.proofs.Line.{by_bool, false_true}
use Rattle.key_spans.proofs.OneList as one
use Rattle.key_spans.proofs.OneList.{Fits, IsKeyPlace, LastEnd}
use Rattle.key_spans.proofs.OnePreList.{Ends, IsPreKey, Three, first_key, last_key, own_fits, parted, same_from, start_any, stop_any, three_back, three_from}
use Rattle.key_spans.proofs.PreReleases.{more_is}
use Rattle.key_spans.proofs.Releases.{below_end, release_is}

-- the greatest number of a bound
abbrev pub top : ℕ
top = MAX_SAFE_INTEGER + 1

-- the numbers of a bound, or of the next version after one
pub record IsNear (v : VersionValue) : Type 0 where
  pub major : v.major ≤ top
  pub minor : v.minor ≤ top
  pub patch : v.patch ≤ top + 1

-- the version of a bound
pub record IsPlain (v : VersionValue) : Type 0 where
  pub major : v.major ≤ top
  pub minor : v.minor ≤ top
  pub patch : v.patch ≤ top
  pub pre_release : list_all is_normal v.pre_release ≡ true

near_plain : (v : VersionValue) → IsPlain v → IsNear v
near_plain v h = record { major = h.major; minor = h.minor; patch = let u = h.patch in omega arith }

plain_release : (M m p : ℕ) → M ≤ top → m ≤ top → p ≤ top → IsPlain (release_value M m p)
plain_release M m p h g f = record { major = h; minor = g; patch = f; pre_release = refl }

plain_lowest : (M m p : ℕ) → M ≤ top → m ≤ top → p ≤ top → IsPlain (lowest M m p)
plain_lowest M m p h g f = record { major = h; minor = g; patch = f; pre_release = refl }

-- releases, and versions of all kinds, with which spans begin and stop
abbrev pub NearRelease : VersionValue → Type 0
NearRelease v = (is_release v ≡ true) × IsNear v

abbrev pub NearAny : VersionValue → Type 0
NearAny v = IsPlain v ⊎ (IsNear v × (v.pre_release ≡ Numeric 0 ∷ []))

-- ---- the bounds of a range

abbrev pub PlainEnd : Bound VersionValue → Type 0
PlainEnd Unbounded = ⊤
PlainEnd (Before v) = IsVersion v × IsPlain v
PlainEnd (After v) = IsVersion v × IsPlain v

pub record PlainSpan (s : Span VersionValue) : Type 0 where
  pub lower : PlainEnd s.lower
  pub upper : PlainEnd s.upper

plain_version : (v : VersionValue) → is_readable top v ≡ true → IsPlain v
plain_version v e = let r = readable top v e in record { major = r.major; minor = r.minor; patch = r.patch; pre_release = r.pre_release }

plain_end : (b : Bound VersionValue) → IsEnd b → is_range_bound top b ≡ true → PlainEnd b
plain_end Unbounded h e = tt
plain_end (Before v) h e = (h, plain_version v e)
plain_end (After v) h e = (h, plain_version v e)

-- ---- releases

near_next : (w : VersionValue) → IsPlain w → next_numbers w ≡ Some (w.major, w.minor, w.patch + 1)
near_next w h =
    let u = h.patch in
    let t : nat_lt (w.patch + 1) (2 ^ 64) ≡ true = lt-ltb (w.patch + 1) (2 ^ 64) (omega arith) in
    rw t refl

release_at : (M m p : ℕ) → M ≤ top → m ≤ top → p ≤ top + 1 → IsKeyPlace NearRelease (release_key M m p)
release_at M m p h g f = inl (
  release_value M m p,
  release_is M m p (omega arith) (omega arith) (omega arith),
  (refl, record { major = h; minor = g; patch = f }),
  refl,
)

release_after : (b : Bool) (w : VersionValue) → IsPlain w
    → IsKeyPlace NearRelease (if b then next_place release_key w else release_key w.major w.minor w.patch)
release_after true w h = subst (λ n. IsKeyPlace NearRelease (numbers_place release_key n)) (sym (near_next w h))
    (release_at w.major w.minor (w.patch + 1) h.major h.minor (let u = h.patch in omega arith))
release_after false w h = release_at w.major w.minor w.patch h.major h.minor (let u = h.patch in omega arith)

release_end : (b : Bound VersionValue) (none : List ℕ) → PlainEnd b → IsKeyPlace NearRelease none → IsKeyPlace NearRelease (release_place b none)
release_end Unbounded none g h = h
release_end (Before w) none g h = release_after false w g.1
release_end (After w) none g h = release_after (is_release w) w g.1

pub releases_fit : (ss : List (Span VersionValue)) → All PlainSpan ss → All (Fits (one.IsKeyOf NearRelease) (LastEnd NearRelease)) (releases ss)
releases_fit [] h = All-nil (Fits (one.IsKeyOf NearRelease) (LastEnd NearRelease))
releases_fit (s ∷ ss) h =
    let g : PlainSpan s = All-head PlainSpan s ss h in
    All-cons (Fits (one.IsKeyOf NearRelease) (LastEnd NearRelease)) (release_stretch s) (releases ss)
    (one.key_fits NearRelease (release_stretch s)
    (release_end s.lower (release_key 0 0 0) g.lower (release_at 0 0 0 (omega arith) (omega arith) (omega arith)))
    (release_end s.upper end_key g.upper (inr refl)))
    (releases_fit ss (All-tail PlainSpan s ss h))

-- ---- all versions

more_plain : (w : VersionValue) → IsPlain w → IsPlain (one_more w)
more_plain w h = record {
  major = h.major;
  minor = h.minor;
  patch = h.patch;
  pre_release = list_all-append is_normal w.pre_release (Numeric 0 ∷ []) ∙ and_from _ _ h.pre_release refl;
}

any_after : (b : Bool) (w : VersionValue) → IsVersion w → IsPlain w → IsKeyPlace NearAny (if b then next_place lowest_key w else key (one_more w))
any_after true w k h = subst (λ n. IsKeyPlace NearAny (numbers_place lowest_key n)) (sym (near_next w h)) (inl (
  lowest w.major w.minor (w.patch + 1),
  lowest_is w.major w.minor (w.patch + 1) k.major k.minor (let u = h.patch in omega arith),
  inr (record { major = h.major; minor = h.minor; patch = let u = h.patch in omega arith }, refl),
  refl,
))
any_after false w k h = inl (one_more w, more_is w k, inl (more_plain w h), refl)

any_end : (b : Bound VersionValue) (none : List ℕ) → PlainEnd b → IsKeyPlace NearAny none → IsKeyPlace NearAny (version_place b none)
any_end Unbounded none g h = h
any_end (Before w) none g h = inl (w, g.0, inl g.1, refl)
any_end (After w) none g h = any_after (is_release w) w g.0 g.1

least_at : IsKeyPlace NearAny (lowest_key 0 0 0)
least_at = inl (
  lowest 0 0 0,
  lowest_is 0 0 0 (omega arith) (omega arith) (omega arith),
  inl (plain_lowest 0 0 0 (omega arith) (omega arith) (omega arith)),
  refl,
)

pub versions_fit : (ss : List (Span VersionValue)) → All PlainSpan ss → All (Fits (one.IsKeyOf NearAny) (LastEnd NearAny)) (versions ss)
versions_fit [] h = All-nil (Fits (one.IsKeyOf NearAny) (LastEnd NearAny))
versions_fit (s ∷ ss) h =
    let g : PlainSpan s = All-head PlainSpan s ss h in
    All-cons (Fits (one.IsKeyOf NearAny) (LastEnd NearAny)) (version_stretch s) (versions ss)
    (one.key_fits NearAny (version_stretch s) (any_end s.lower (lowest_key 0 0 0) g.lower least_at) (any_end s.upper end_key g.upper (inr refl)))
    (versions_fit ss (All-tail PlainSpan s ss h))

-- ---- pre-releases

abbrev pub IsPlainKey : List ℕ → Type 0
IsPlainKey = one.IsKeyOf IsPlain

abbrev pub IsPlainPre : List ℕ → Type 0
IsPlainPre k = IsPreKey k × IsPlainKey k

pub plain_parted : IsParted (slice_cmp nat_cmp) IsPlainPre Ends
plain_parted = record { same = λ a b e p q up reach. parted.same a b e p.0 q.0 up reach }

first_plain : (w : VersionValue) → IsVersion w → IsPlain w → IsPlainKey (first_key w)
first_plain w k h = (
  lowest w.major w.minor w.patch,
  lowest_is w.major w.minor w.patch k.major k.minor k.patch,
  plain_lowest w.major w.minor w.patch h.major h.minor h.patch,
  refl,
)

last_plain : (w : VersionValue) → IsVersion w → IsPlain w → IsPlainKey (last_key w)
last_plain w k h = (
  release_value w.major w.minor w.patch,
  release_is w.major w.minor w.patch k.major k.minor k.patch,
  plain_release w.major w.minor w.patch h.major h.minor h.patch,
  refl,
)

greater_by : (t : Bool) (k f : List ℕ) → le k f ≡ t → IsPlainKey k ⊎ (k ≡ []) → IsPlainKey f → IsPlainKey (if t then f else k)
greater_by true k f e h g = g
greater_by false k f e h g = elim h [
  | inl u ↦ u
  | inr u ↦ false_true (le k f) e (subst (λ x. le x f ≡ true) (sym u) (of_keys.empty_least f))
]

-- the end of all keys is above each key
above_all : (w : VersionValue) → IsVersion w → le end_key (last_key w) ≡ false
above_all w k = line.not_back nat_list_cmp_total (last_key w) end_key
    (below_end (release_value w.major w.minor w.patch) (release_is w.major w.minor w.patch k.major k.minor k.patch))

lesser_by : (t : Bool) (k : List ℕ) (w : VersionValue) → IsVersion w → le k (last_key w) ≡ t → IsPlainKey k ⊎ (k ≡ end_key) → IsPlainKey (last_key w)
    → IsPlainKey (if t then k else last_key w)
lesser_by false k w v e h g = g
lesser_by true k w v e h g = elim h [
  | inl u ↦ u
  | inr u ↦ false_true (le end_key (last_key w)) (above_all w v) (subst (λ x. le x (last_key w) ≡ true) u e)
]

abbrev pub FitsPlain : Stretch (List ℕ) → Type 0
FitsPlain = Fits IsPlainPre Ends

also_plain : (s : Stretch (List ℕ)) → Fits IsPreKey Ends s → IsPlainKey s.start → IsPlainKey s.stop → FitsPlain s
also_plain s h a b full = let p : IsPlaced (slice_cmp nat_cmp) IsPreKey Ends s = h full in record {
  start = (p.start, a);
  stop = elim p.stop [ inl u ↦ inl (u, b) | inr u ↦ inr u ];
  within = p.within;
}

-- the places of two bounds
record Between (start stop : List ℕ) : Type 0 where
  first : IsPlainKey start ⊎ (start ≡ [])
  last : IsPlainKey stop ⊎ (stop ≡ end_key)
  fits : (w : VersionValue) → IsVersion w
      → Fits IsPreKey Ends (record { start = greater start (first_key w); stop = lesser stop (last_key w) })

own_plain : (t : Bool) (start stop : List ℕ) (w : VersionValue) → Between start stop → IsVersion w → IsPlain w
    → All FitsPlain (if t then [] else record { start = greater start (first_key w); stop = lesser stop (last_key w) } ∷ [])
own_plain true start stop w b k h = All-nil FitsPlain
own_plain false start stop w b k h = All-cons FitsPlain _ [] (also_plain _ (b.fits w k)
    (greater_by (le start (first_key w)) start (first_key w) refl b.first (first_plain w k h))
    (lesser_by (le stop (last_key w)) stop w k refl b.last (last_plain w k h))) (All-nil FitsPlain)

bound_plain : (start stop : List ℕ) (e : Bound VersionValue) → Between start stop → PlainEnd e → All FitsPlain (bound_stretch start stop e)
bound_plain start stop Unbounded b h = All-nil FitsPlain
bound_plain start stop (Before w) b h = own_plain (is_release w) start stop w b h.0 h.1
bound_plain start stop (After w) b h = own_plain (is_release w) start stop w b h.0 h.1

after_plain : (t : Bool) (w : VersionValue) → IsVersion w → IsPlain w → IsPlainKey (if t then key w else key (one_more w))
after_plain true w k h = (w, k, h, refl)
after_plain false w k h = (one_more w, more_is w k, more_plain w h, refl)

start_plain : (b : Bound VersionValue) → PlainEnd b → IsPlainKey (pre_place b []) ⊎ (pre_place b [] ≡ [])
start_plain Unbounded h = inr refl
start_plain (Before w) h = inl (w, h.0, h.1, refl)
start_plain (After w) h = inl (after_plain (is_release w) w h.0 h.1)

stop_plain : (b : Bound VersionValue) → PlainEnd b → IsPlainKey (pre_place b end_key) ⊎ (pre_place b end_key ≡ end_key)
stop_plain Unbounded h = inr refl
stop_plain (Before w) h = inl (w, h.0, h.1, refl)
stop_plain (After w) h = inl (after_plain (is_release w) w h.0 h.1)

is_end : (b : Bound VersionValue) → PlainEnd b → IsEnd b
is_end Unbounded h = tt
is_end (Before w) h = h.0
is_end (After w) h = h.0

span_plain : (s : Span VersionValue) → PlainSpan s → All FitsPlain (pre_stretches s)
span_plain s h =
    let start : List ℕ = pre_place s.lower [] in
    let stop : List ℕ = pre_place s.upper end_key in
    let here : Between start stop = record {
      first = start_plain s.lower h.lower;
      last = stop_plain s.upper h.upper;
      fits = λ w k. own_fits start stop w k (start_any s.lower (is_end s.lower h.lower)) (stop_any s.upper (is_end s.upper h.upper));
    } in
    All-append FitsPlain (bound_stretch start stop s.lower) (bound_stretch start stop s.upper)
    (bound_plain start stop s.lower here h.lower) (bound_plain start stop s.upper here h.upper)

pub pre_releases_fit : (ss : List (Span VersionValue)) → All PlainSpan ss → All FitsPlain (pre_releases ss)
pre_releases_fit [] h = All-nil FitsPlain
pre_releases_fit (s ∷ ss) h = All-append FitsPlain (pre_stretches s) (pre_releases ss) (span_plain s (All-head PlainSpan s ss h))
    (pre_releases_fit ss (All-tail PlainSpan s ss h))

-- a span of pre-releases stops at such a key too
pub pre_stop : (s : Stretch (List ℕ)) → IsPlaced (slice_cmp nat_cmp) IsPlainPre Ends s → IsPlainKey s.stop
pre_stop s p =
    let u = p.start.1 in
    elim p.stop [
      | inl x ↦ x.1
      | inr x ↦ subst IsPlainKey (sym (end_of u.0 u.1 s.stop (subst (λ l. Ends l s.stop) u.3 x))) (last_plain u.0 u.1 u.2)
    ]

-- ---- the bounds of an interval

bound_fits : (t : Bool) (v : VersionValue) → IsNear v → (t ≡ false → IsPlain v) → v.build ≡ []
    → is_range_bound top (if t then After (release_value v.major v.minor (v.patch - 1)) else Before v) ≡ true
bound_fits true v h g e =
    let u = h.patch in
    and_from _ _ (and_from _ _ (le-leb v.major top h.major) (and_from _ _ (le-leb v.minor top h.minor) (le-leb (v.patch - 1) top (omega arith)))) refl
bound_fits false v h g e =
    let p : IsPlain v = g refl in
    and_from _ _ (and_from _ _ (le-leb v.major top p.major) (and_from _ _ (le-leb v.minor top p.minor) (le-leb v.patch top p.patch)))
    (and_from _ _ p.pre_release (ap (list_all is_normal) e))

-- the predicates go by the key
plain_so : (u f : VersionValue) → IsVersion u → IsVersion f → key u ≡ key f → IsPlain u → IsPlain f
plain_so u f h k e p = let same = same_parts u f h k e in record {
  major = subst (λ n. n ≤ top) same.0 p.major;
  minor = subst (λ n. n ≤ top) same.1 p.minor;
  patch = subst (λ n. n ≤ top) same.2 p.patch;
  pre_release = ap (list_all is_normal) (sym same.3) ∙ p.pre_release;
}

near_so : (u f : VersionValue) → IsVersion u → IsVersion f → key u ≡ key f → IsNear u → IsNear f
near_so u f h k e p = let same = same_parts u f h k e in record {
  major = subst (λ n. n ≤ top) same.0 p.major;
  minor = subst (λ n. n ≤ top) same.1 p.minor;
  patch = subst (λ n. n ≤ top + 1) same.2 p.patch;
}

any_so : (u f : VersionValue) → IsVersion u → IsVersion f → key u ≡ key f → NearAny u → NearAny f
any_so u f h k e q = elim q [
  | inl p ↦ inl (plain_so u f h k e p)
  | inr p ↦ inr (near_so u f h k e p.0, sym (same_parts u f h k e).3 ∙ p.1)
]

any_near : (v : VersionValue) → NearAny v → IsNear v
any_near v q = elim q [ inl p ↦ near_plain v p | inr p ↦ p.0 ]

low_patch : (v : VersionValue) → IsNear v → list_all is_normal v.pre_release ≡ true → nat_lt MAX_SAFE_INTEGER v.patch ≡ false → IsPlain v
low_patch v h n e = record {
  major = h.major;
  minor = h.minor;
  patch = let u : v.patch ≤ MAX_SAFE_INTEGER = ltb-false MAX_SAFE_INTEGER v.patch e in omega arith;
  pre_release = n;
}

-- releases
release_bound : (apart : Bool) (v : VersionValue) → IsNear v → is_release v ≡ true → v.build ≡ []
    → is_range_bound top (bound_at (is_next true apart v) v) ≡ true
release_bound apart v h r e = bound_fits (nat_lt MAX_SAFE_INTEGER v.patch) v h
    (λ t. low_patch v h (ap (list_all is_normal) (empty_nil v.pre_release r)) t) e

-- a version of the same numbers is not below the least of them
is_least : (v : VersionValue) → v.pre_release ≡ Numeric 0 ∷ [] → precedence v (lowest v.major v.minor v.patch) ≡ precedence v v
is_least v e = λ i. precedence v (record { major = v.major; minor = v.minor; patch = v.patch; pre_release = sym e i; build = v.build })

least_next : (v : VersionValue) → v.pre_release ≡ Numeric 0 ∷ [] → is_eq (precedence v (lowest v.major v.minor v.patch)) ≡ true
least_next v e = ap is_eq (is_least v e ∙ tied_itself precedence_total v)

-- all versions, of a span of more than one triple of numbers
apart_by : (a b : Bool) (v : VersionValue) → NearAny v → a ≡ true → nat_lt MAX_SAFE_INTEGER v.patch ≡ b → (is_eq (precedence v (lowest v.major v.minor v.patch)) && b) ≡ false
    → IsPlain v
apart_by a b v q h e f = elim q [
  | inl p ↦ p
  | inr p ↦ low_patch v p.0 (ap (list_all is_normal) p.1) (e ∙ (sym (ap (λ x. x && b) (least_next v p.1)) ∙ f))
]

any_bound : (v : VersionValue) → NearAny v → v.build ≡ [] → is_range_bound top (bound_at (is_next false true v) v) ≡ true
any_bound v q e = bound_fits (is_eq (precedence v (lowest v.major v.minor v.patch)) && nat_lt MAX_SAFE_INTEGER v.patch) v (any_near v q)
    (λ t. apart_by true (nat_lt MAX_SAFE_INTEGER v.patch) v q refl refl t) e

-- two of the same numbers
above_least : (f w : VersionValue) → IsVersion f → IsVersion w → Three w f → w.pre_release ≡ Numeric 0 ∷ [] → le (key w) (key f) ≡ true
above_least f w h k t e =
    let same : key w ≡ lowest_key w.major w.minor w.patch = λ i. key (record { major = w.major; minor = w.minor; patch = w.patch; pre_release = e i; build = [] }) in
    let one : is_eq (of_keys.numbers_cmp w f) ≡ true = of_keys.same_numbers w f ∙ same_from w f t in
    ap (λ l. le l (key f)) same ∙ (of_keys.lowest_past w f k h ∙ ap is_le ((Equal-is (of_keys.numbers_cmp w f)).0 one))

plain_last : (f w : VersionValue) → IsVersion f → IsVersion w → NearAny w → Three f w → lt (key f) (key w) ≡ true → IsPlain w
plain_last f w h k q t l = elim q [
  | inl p ↦ p
  | inr p ↦ false_true (le (key w) (key f)) (line.not_back nat_list_cmp_total (key f) (key w) l) (above_least f w h k (three_back f w t) p.1)
]

plain_first : (f w : VersionValue) → NearAny f → IsPlain w → Three f w → IsPlain f
plain_first f w q p t = elim q [
  | inl g ↦ g
  | inr g ↦ record {
    major = g.0.major;
    minor = g.0.minor;
    patch = subst (λ n. n ≤ top) (sym t.patch) p.patch;
    pre_release = ap (list_all is_normal) g.1;
  }
]

plain_bound : (v : VersionValue) → IsPlain v → v.build ≡ [] → is_range_bound top (Before v) ≡ true
plain_bound v p e = bound_fits false v (near_plain v p) (λ t. p) e

-- ---- the bounds of the interval of a span

abbrev pub SpelledAt : (include flag : Bool) → (start stop : List ℕ) → Type 0
SpelledAt true flag start stop = one.IsKeyOf NearAny start × IsKeyPlace NearAny stop
SpelledAt false true start stop = one.IsKeyOf NearRelease start × IsKeyPlace NearRelease stop
SpelledAt false false start stop = IsPlainKey start × IsKeyPlace IsPlain stop

abbrev pub are_bounds : Span VersionValue → Bool
are_bounds s = is_range_bound top s.lower && is_range_bound top s.upper

place_of : (Q : VersionValue → Type 0) (stop : List ℕ) (w : VersionValue) → IsKeyOf stop w → IsKeyPlace Q stop
    → ((u : VersionValue) → IsVersion u → key u ≡ key w → Q u → Q w) → Q w
place_of Q stop w k p so = elim p [
  | inl u ↦ so u.0 u.1 (sym u.3 ∙ sym k.is_key) u.2
  | inr u ↦ not_end w k.is_version (k.is_key ∙ u)
]

start_of : (Q : VersionValue → Type 0) (start : List ℕ) (f : VersionValue) → IsKeyOf start f → one.IsKeyOf Q start
    → ((u : VersionValue) → IsVersion u → key u ≡ key f → Q u → Q f) → Q f
start_of Q start f g p so = so p.0 p.1 (sym p.3 ∙ sym g.is_key) p.2

near_release : (w u : VersionValue) → IsVersion w → IsVersion u → key u ≡ key w → NearRelease u → NearRelease w
near_release w u k h e q = (sym (release_of u w e) ∙ q.0, near_so u w h k e q.1)

all_bounds : (start stop : List ℕ) (f : VersionValue) (last : Option VersionValue) → IsKeyOf start f → IsStop stop last
    → lt start stop ≡ true → SpelledAt true false start stop → are_bounds (interval_of false f last) ≡ true
all_bounds start stop f None g k l p =
    and_from _ _ (any_bound f (start_of NearAny start f g p.0 (λ u h e q. any_so u f h g.is_version e q)) g.no_build) refl
all_bounds start stop f (Some w) g k l p =
    let a : NearAny f = start_of NearAny start f g p.0 (λ u h e q. any_so u f h g.is_version e q) in
    let b : NearAny w = place_of NearAny stop w k p.1 (λ u h e q. any_so u w h k.is_version e q) in
    by_bool (have_one_triple f w)
    (λ e.
    let t : Three f w = three_from f w e in
    let up : lt (key f) (key w) ≡ true = subst (λ x. lt x (key w) ≡ true) (sym g.is_key) (subst (λ x. lt start x ≡ true) (sym k.is_key) l) in
    let q : IsPlain w = plain_last f w g.is_version k.is_version b t up in
    ap are_bounds (own_interval f w e) ∙ and_from _ _ (plain_bound f (plain_first f w a q t) g.no_build) (plain_bound w q k.no_build))
    (λ e. ap (λ x. are_bounds (record { lower = bound_at (is_next false (not x) f) f; upper = bound_at (is_next false (not x) w) w })) e
    ∙ and_from _ _ (any_bound f a g.no_build) (any_bound w b k.no_build))

release_bounds : (start stop : List ℕ) (f : VersionValue) (last : Option VersionValue) → IsKeyOf start f → IsStop stop last
    → SpelledAt false true start stop → are_bounds (interval_of true f last) ≡ true
release_bounds start stop f None g k p =
    let a : NearRelease f = start_of NearRelease start f g p.0 (λ u h e q. near_release f u g.is_version h e q) in
    and_from _ _ (release_bound true f a.1 a.0 g.no_build) refl
release_bounds start stop f (Some w) g k p =
    let a : NearRelease f = start_of NearRelease start f g p.0 (λ u h e q. near_release f u g.is_version h e q) in
    let b : NearRelease w = place_of NearRelease stop w k p.1 (λ u h e q. near_release w u k.is_version h e q) in
    and_from _ _ (release_bound (not (have_one_triple f w)) f a.1 a.0 g.no_build) (release_bound (not (have_one_triple f w)) w b.1 b.0 k.no_build)

pub one_bounded : (include flag : Bool) (start stop : List ℕ) (f : VersionValue) (last : Option VersionValue) → IsKeyOf start f → IsStop stop last
    → begins include flag f ≡ true → StopsAt include flag f last → lt start stop ≡ true → SpelledAt include flag start stop
    → are_bounds (interval_of flag f last) ≡ true
one_bounded true true start stop f last g k b t l p = false_not_true b
one_bounded true false start stop f last g k b t l p = all_bounds start stop f last g k l p
one_bounded false true start stop f last g k b t l p = release_bounds start stop f last g k p
one_bounded false false start stop f None g k b t l p = false_not_true t
one_bounded false false start stop f (Some w) g k b t l p =
    ap are_bounds (own_interval f w t)
    ∙ and_from _ _ (plain_bound f (start_of IsPlain start f g p.0 (λ u h e q. plain_so u f h g.is_version e q)) g.no_build)
    (plain_bound w (place_of IsPlain stop w k p.1 (λ u h e q. plain_so u w h k.is_version e q)) k.no_build)

-- ---- the list of a range

pub plain_spans : (ss : List (Span VersionValue)) → All IsSpan ss
    → list_all (λ s. is_interval precedence s && (is_range_bound top s.lower && is_range_bound top s.upper)) ss ≡ true → All PlainSpan ss
plain_spans [] g e = All-nil PlainSpan
plain_spans (s ∷ ss) g e =
    let both = and_parts (is_interval precedence s && are_bounds s) _ e in
    let ends = and_parts (is_interval precedence s) (are_bounds s) both.0 in
    let each = and_parts (is_range_bound top s.lower) (is_range_bound top s.upper) ends.1 in
    let span : IsSpan s = All-head IsSpan s ss g in
    All-cons PlainSpan s ss (record { lower = plain_end s.lower span.lower each.0; upper = plain_end s.upper span.upper each.1 })
    (plain_spans ss (All-tail IsSpan s ss g) both.1)
