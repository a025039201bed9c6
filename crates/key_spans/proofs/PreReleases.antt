-- The stretches of the pre-releases are exact, and hold no release.
use Rattle.std.proofs.Common.{ℕ, ◌≡◌, ◌++◌, ◌∷◌, ◌&&◌, ◌||◌, List, [], Bool, true, false, not, refl, ap, arith, ◌∙◌, sym, true≢false}
use Rattle.std.proofs.Math.Bool.{and-false, or-false}
use Rattle.std.specs.Prelude.{All, if◌then◌else◌}
use Rattle.std.proofs.lemmas.List.Elements.{All-append, All-cons, All-head, All-nil, All-tail}
use Rattle.std.proofs.lemmas.List.Folds.{list_any-append}
use Rattle.std.specs.Ordering.{is_le, is_lt, nat_cmp, ordering_then}
use Rattle.std.specs.Cmp.Lexicographic.{slice_cmp}
use Rattle.std.specs.declared.cmp.Ordering.{Ordering}
use Rattle.std.specs.declared.cmp.Ordering.TheVariants.{Less, Equal, Greater}
use Rattle.key_spans.specs.Internal.Places.{IsEnd, IsSpan, bound_stretch, end_key, greater, lesser, lowest_key, one_more}
use Rattle.key_spans.specs.Internal.Places.{pre_place, pre_releases, pre_stretches, release_key}
use Rattle.key_spans.specs.Internal.Sets.{has, holds}
use Rattle.key_spans.proofs.Releases.{below_end, le_cmp, then_next, then_true}
use Rattle.semver_core.proofs.Encoding.Order.{key_cmp}
use Rattle.key_spans.proofs.Keys as of_keys
use Rattle.key_spans.proofs.Keys.{le, lt, numbers_cmp, same}
use Rattle.semver_core.specs.Cuts as cuts
use Rattle.semver_core.specs.Cuts.{Span, has_bound, is_past, lower_cut, passes, upper_cut}
use Rattle.nodejs_semver.specs.Ranges.Gate.{accepts}
use Rattle.semver_core.specs.Values.Gate.{lets_in}
use Rattle.semver_core.specs.Keys.{key}
use Rattle.semver_core.specs.Lists.{is_empty}
use Rattle.semver_core.specs.Text.Identifiers.{AlphaNumeric, Id, Numeric}
use Rattle.semver_core.specs.Values.Order.{id_cmp, pre_cmp, precedence}
use Rattle.semver_core.specs.Values.Versions.{IsId, IsVersion, VersionValue, is_release}
use Rattle.semver_core.specs.declared.cuts.bound.Bound.{Bound}
use Rattle.semver_core.specs.declared.cuts.bound.Bound.TheVariants.{Unbounded, Before, After}

-- ---- one identifier more

nothing_least : (ys : List Id) → is_le (slice_cmp id_cmp [] ys) ≡ true
nothing_least [] = refl
nothing_least (y ∷ ys) = refl

ids_more : (xs ys : List Id) → is_le (slice_cmp id_cmp (xs ++ Numeric 0 ∷ []) ys) ≡ is_lt (slice_cmp id_cmp xs ys)
ids_more [] [] = refl
ids_more [] (Numeric n ∷ ys) = then_true (nat_cmp 0 n) _ (le_cmp 0 n (omega arith)) (nothing_least ys)
ids_more [] (AlphaNumeric t ∷ ys) = refl
ids_more (x ∷ xs) [] = refl
ids_more (x ∷ xs) (y ∷ ys) = then_next (id_cmp x y) _ _ (ids_more xs ys)

pre_more : (xs ys : List Id) → is_empty xs ≡ false → is_le (pre_cmp (xs ++ Numeric 0 ∷ []) ys) ≡ is_lt (pre_cmp xs ys)
pre_more [] ys h = absurd (true≢false h)
pre_more (x ∷ xs) [] h = refl
pre_more (x ∷ xs) (y ∷ ys) h = ids_more (x ∷ xs) (y ∷ ys)

more_past : (w v : VersionValue) → is_release w ≡ false → is_le (precedence (one_more w) v) ≡ is_lt (precedence w v)
more_past w v h = then_next (nat_cmp w.major v.major) _ _ (then_next (nat_cmp w.minor v.minor) _ _
    (then_next (nat_cmp w.patch v.patch) _ _ (pre_more w.pre_release v.pre_release h)))

pub more_is : (w : VersionValue) → IsVersion w → IsVersion (one_more w)
more_is w h = record {
  major = h.major;
  minor = h.minor;
  patch = h.patch;
  build = All-nil IsId;
  pre_release = All-append IsId w.pre_release (Numeric 0 ∷ []) h.pre_release (All-cons IsId (Numeric 0) [] (omega arith) (All-nil IsId));
}

-- ---- bounds

lt_after : (o : Ordering) → is_lt o ≡ is_le (ordering_then o Greater)
lt_after Less = refl
lt_after Equal = refl
lt_after Greater = refl

untied : (n : Ordering) → is_le (ordering_then n Greater) ≡ is_le (ordering_then (ordering_then n Greater) Greater)
untied Less = refl
untied Equal = refl
untied Greater = refl

pre_above : (xs ys : List Id) → is_empty xs ≡ true → is_empty ys ≡ false → pre_cmp xs ys ≡ Greater
pre_above [] [] h k = absurd (true≢false k)
pre_above [] (y ∷ ys) h k = refl
pre_above (x ∷ xs) ys h k = absurd (true≢false (sym h))

pub then_three : (a b c d e : Ordering) → d ≡ e → ordering_then a (ordering_then b (ordering_then c d)) ≡ ordering_then (ordering_then a (ordering_then b c)) e
then_three Less b c d e h = refl
then_three Equal Less c d e h = refl
then_three Equal Equal Less d e h = refl
then_three Equal Equal Equal d e h = h
then_three Equal Equal Greater d e h = refl
then_three Equal Greater c d e h = refl
then_three Greater b c d e h = refl

release_against : (w v : VersionValue) → is_release w ≡ true → is_release v ≡ false
    → precedence w v ≡ ordering_then (numbers_cmp w v) Greater
release_against w v h k = then_three (nat_cmp w.major v.major) (nat_cmp w.minor v.minor) (nat_cmp w.patch v.patch) _ Greater
    (pre_above w.pre_release v.pre_release h k)

-- past a pre-release
pub past_more : (w v : VersionValue) → is_release w ≡ false → IsVersion w → IsVersion v
    → le (key (one_more w)) (key v) ≡ is_le (ordering_then (precedence w v) Greater)
past_more w v e g h = ap is_le (key_cmp (one_more w) v (more_is w g) h) ∙ (more_past w v e ∙ lt_after (precedence w v))

after_past : (b : Bool) (w v : VersionValue) → is_release w ≡ b → IsVersion w → IsVersion v → is_release v ≡ false
    → le (if b then key w else key (one_more w)) (key v) ≡ is_le (ordering_then (precedence w v) Greater)
after_past true w v e g h r = ap is_le (key_cmp w v g h) ∙ (ap is_le (release_against w v e r)
    ∙ (untied (numbers_cmp w v) ∙ ap (λ o. is_le (ordering_then o Greater)) (sym (release_against w v e r))))
after_past false w v e g h r = past_more w v e g h

lower_past : (b : Bound VersionValue) (v : VersionValue) → IsEnd b → IsVersion v → is_release v ≡ false
    → le (pre_place b []) (key v) ≡ is_past precedence (lower_cut b) v
lower_past Unbounded v g h r = of_keys.empty_least (key v)
lower_past (Before w) v g h r = of_keys.past_key w v g h
lower_past (After w) v g h r = after_past (is_release w) w v refl g h r

upper_past : (b : Bound VersionValue) (v : VersionValue) → IsEnd b → IsVersion v → is_release v ≡ false
    → lt (key v) (pre_place b end_key) ≡ not (is_past precedence (upper_cut b) v)
upper_past Unbounded v g h r = below_end v h
upper_past (Before w) v g h r = of_keys.before_key w v g h
upper_past (After w) v g h r = of_keys.lt_le (key v) _ ∙ ap not (after_past (is_release w) w v refl g h r)

-- ---- the pre-releases of the numbers of a version

four : (a b c d : Bool) → ((a && b) && (c && d)) ≡ ((a && c) && (b && d))
four true true c d = refl
four true false true d = refl
four true false false d = refl
four false b c d = refl

abbrev names : VersionValue → VersionValue → Bool
names v w = not (is_release w) && (not (is_release v) && same w v)

own_by : (b : Bool) (start stop : List ℕ) (w v : VersionValue) → IsVersion w → IsVersion v
    → has (slice_cmp nat_cmp) (if b then [] else record {
      start = greater start (lowest_key w.major w.minor w.patch);
      stop = lesser stop (release_key w.major w.minor w.patch);
    } ∷ []) (key v) ≡ ((le start (key v) && lt (key v) stop) && (not b && (not (is_release v) && same w v)))
own_by true start stop w v h k = sym (and-false _)
own_by false start stop w v h k =
    let first : List ℕ = lowest_key w.major w.minor w.patch in
    let last : List ℕ = release_key w.major w.minor w.patch in
    or-false _
    ∙ ((λ i. of_keys.greater_le start first (key v) i && of_keys.lesser_lt stop last (key v) i)
    ∙ (four (le start (key v)) (le first (key v)) (lt (key v) stop) (lt (key v) last)
    ∙ ap (λ b. (le start (key v) && lt (key v) stop) && b) (of_keys.own_holds w v h k)))

bound_law : (start stop : List ℕ) (b : Bound VersionValue) (v : VersionValue) → IsEnd b → IsVersion v
    → has (slice_cmp nat_cmp) (bound_stretch start stop b) (key v) ≡ ((le start (key v) && lt (key v) stop) && passes (names v) b)
bound_law start stop Unbounded v h k = sym (and-false _)
bound_law start stop (Before w) v h k = own_by (is_release w) start stop w v h k
bound_law start stop (After w) v h k = own_by (is_release w) start stop w v h k

-- ---- one interval, and all

gathered : (H r : Bool) (like : VersionValue → Bool) (s : Span VersionValue) → r ≡ false →
    ((H && passes (λ w. not (is_release w) && (not r && like w)) s.lower) || (H && passes (λ w. not (is_release w) && (not r && like w)) s.upper))
    ≡ (H && (r || has_bound (λ w. not (is_release w) && like w) s))
gathered H true like s e = absurd (true≢false e)
gathered true false like s e = refl
gathered false false like s e = refl

between_holds : (s : Span VersionValue) (v : VersionValue) → IsSpan s → IsVersion v → is_release v ≡ false
    → (le (pre_place s.lower []) (key v) && lt (key v) (pre_place s.upper end_key)) ≡ cuts.holds precedence s v
between_holds s v h k r = λ i. lower_past s.lower v h.lower k r i && upper_past s.upper v h.upper k r i

in_both : (s : Span VersionValue) (v : VersionValue) → IsSpan s → IsVersion v
    → has (slice_cmp nat_cmp) (pre_stretches s) (key v)
    ≡ (((le (pre_place s.lower []) (key v) && lt (key v) (pre_place s.upper end_key)) && passes (names v) s.lower)
    || ((le (pre_place s.lower []) (key v) && lt (key v) (pre_place s.upper end_key)) && passes (names v) s.upper))
in_both s v h k =
    let start : List ℕ = pre_place s.lower [] in
    let stop : List ℕ = pre_place s.upper end_key in
    list_any-append (λ t. holds (slice_cmp nat_cmp) t (key v)) (bound_stretch start stop s.lower) (bound_stretch start stop s.upper)
    ∙ (λ j. bound_law start stop s.lower v h.lower k j || bound_law start stop s.upper v h.upper k j)

span_exact : (s : Span VersionValue) (v : VersionValue) → IsSpan s → IsVersion v → is_release v ≡ false
    → has (slice_cmp nat_cmp) (pre_stretches s) (key v) ≡ (cuts.holds precedence s v && lets_in s v)
span_exact s v h k r =
    in_both s v h k
    ∙ (gathered (le (pre_place s.lower []) (key v) && lt (key v) (pre_place s.upper end_key)) (is_release v) (λ w. same w v) s r
    ∙ (λ i. between_holds s v h k r i && lets_in s v))

pub pre_releases_exact : (ss : List (Span VersionValue)) (v : VersionValue) → All IsSpan ss → IsVersion v → is_release v ≡ false
    → has (slice_cmp nat_cmp) (pre_releases ss) (key v) ≡ accepts ss v false
pre_releases_exact [] v h k r = refl
pre_releases_exact (s ∷ ss) v h k r =
    list_any-append (λ t. holds (slice_cmp nat_cmp) t (key v)) (pre_stretches s) (pre_releases ss)
    ∙ (λ i. span_exact s v (All-head IsSpan s ss h) k r i || pre_releases_exact ss v (All-tail IsSpan s ss h) k r i)

-- ---- no release

and_not : (x y : Bool) → y ≡ false → (x && y) ≡ false
and_not x y h = ap (λ b. x && b) h ∙ and-false x

no_name : (a r s : Bool) → r ≡ true → (not a && (not r && s)) ≡ false
no_name a r s h = and_not (not a) (not r && s) (ap (λ b. not b && s) h)

passes_none : (b : Bound VersionValue) (v : VersionValue) → is_release v ≡ true → passes (names v) b ≡ false
passes_none Unbounded v h = refl
passes_none (Before w) v h = no_name (is_release w) (is_release v) (same w v) h
passes_none (After w) v h = no_name (is_release w) (is_release v) (same w v) h

span_none : (s : Span VersionValue) (v : VersionValue) → IsSpan s → IsVersion v → is_release v ≡ true
    → has (slice_cmp nat_cmp) (pre_stretches s) (key v) ≡ false
span_none s v h k r =
    let here : Bool = le (pre_place s.lower []) (key v) && lt (key v) (pre_place s.upper end_key) in
    in_both s v h k ∙ (λ i. and_not here _ (passes_none s.lower v r) i || and_not here _ (passes_none s.upper v r) i)

pub no_release : (ss : List (Span VersionValue)) (v : VersionValue) → All IsSpan ss → IsVersion v → is_release v ≡ true
    → has (slice_cmp nat_cmp) (pre_releases ss) (key v) ≡ false
no_release [] v h k r = refl
no_release (s ∷ ss) v h k r =
    list_any-append (λ t. holds (slice_cmp nat_cmp) t (key v)) (pre_stretches s) (pre_releases ss)
    ∙ (λ i. span_none s v (All-head IsSpan s ss h) k r i || no_release ss v (All-tail IsSpan s ss h) k r i)
