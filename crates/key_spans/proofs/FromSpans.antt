-- The range of a list of spans.
use Rattle.std.proofs.Common.{ℕ, ◌≡◌, ◌<◌, ◌^◌, ◌+◌, ◌++◌, ◌∷◌, ◌&&◌, ◌||◌, List, [], Bool, true, false, not, refl, ap, arith, ◌∙◌, sym, subst, inl, inr, true≢false, get_or, map, take}
use Rattle.std.proofs.lemmas.Bool.{and_from, not-true, or_left}
use Rattle.std.proofs.lemmas.List.Elements.{All-append, All-cons, All-get_or, All-head, All-map, All-nil, All-tail}
use Rattle.std.specs.Cmp.Lexicographic.{nat_list_cmp_total, slice_cmp}
use Rattle.std.proofs.lemmas.List.{take_more}
use Rattle.std.specs.List.{AllZip, list_all}
use Rattle.std.specs.Result.{result_ok}
use Rattle.std.specs.Ordering.{nat_cmp}
use Rattle.std.specs.Prelude.{All, Err, IfNone, IfOk, IfSome, IsOk, None, Ok, Option, Result, Some, ◌↔◌, if◌then◌else◌, length}
use Rattle.semver_core.specs.Cuts.{Span, interval, is_interval}
use Rattle.semver_core.specs.Keys.{key}
use Rattle.semver_core.specs.Values.Gate.{is_range_bound}
use Rattle.semver_core.specs.Values.Order.{precedence}
use Rattle.semver_core.specs.Values.Versions.{IsVersion, VersionValue}
use Rattle.semver_core.specs.declared.TheConstants.{MAX_SAFE_INTEGER}
use Rattle.nodejs_semver.specs.Ranges.Gate.{accepts}
use Rattle.nodejs_semver.specs.Ranges.View.{IsRange, span_of}
use Rattle.nodejs_semver.proofs.Values.{spans_same}
use Rattle.key_spans.specs.Internal.Pieces.{IsCanonicalOf, Piece, PieceEnds, all_flagged, are_sorted, flagged, in_pieces, piece, pieces}
use Rattle.key_spans.specs.Internal.Places.{IsSpan, end_key, pre_releases, releases, versions}
use Rattle.key_spans.specs.Internal.Sets.{Stretch}
use Rattle.key_spans.specs.Ranges.{IsIntervalOf, IsRangeOf, IsSimple}
use Rattle.key_spans.specs.Spans.{HasEnds, IsCanonical, in_span, in_spans, is_behind, is_some_span, is_sorted}
use Rattle.key_spans.specs.declared.KeySpan.{KeySpan}
use Rattle.key_spans.proofs.Bounded.{IsPlainPre, NearAny, NearRelease, PlainSpan, SpelledAt, are_bounds, one_bounded, plain_parted, plain_spans, pre_releases_fit, pre_stop, releases_fit, top, versions_fit}
use Rattle.key_spans.proofs.Canonical.{AnyPlaced, PrePlaced, ReleasePlaced, all_any_ends, all_pre_ends, all_release_ends}
use Rattle.key_spans.proofs.Few.{normal_few}
use Rattle.key_spans.proofs.Intervals.{accepts_one, begins_so, first_in_bytes, one_exact, one_interval, stops_so}
use Rattle.key_spans.proofs.IsPlaced.{IsPlaced}
use Rattle.key_spans.proofs.Line.{and_first, and_second, by_bool, false_true}
use Rattle.key_spans.proofs.Normal.{normal, normal_canonical, normal_has}
use Rattle.key_spans.proofs.OneList as one
use Rattle.key_spans.proofs.OneList.{IsAny, IsRelease, LastEnd, last_parted, placed}
use Rattle.key_spans.proofs.OnePreList as pre
use Rattle.key_spans.proofs.OnePreList.{Ends, IsPreKey, parted}
use Rattle.key_spans.proofs.OneSet.{one_by}
use Rattle.key_spans.proofs.Pieces.{all_exact, gate_exact, in_spans-pieces, is_sorted-pieces, sorted-both, sorted-flagged}
use Rattle.key_spans.proofs.RangeBounds.{range_spans}

-- ---- the canonical list of a range

abbrev line : List (Stretch (List ℕ)) → List (Stretch (List ℕ))
line ss = normal (slice_cmp nat_cmp) ss

line_is : (ss : List (Stretch (List ℕ))) → IsCanonicalOf ss (line ss)
line_is ss = record {
  canonical = normal_canonical nat_list_cmp_total ss;
  same = normal_has nat_list_cmp_total ss;
  few = normal_few (slice_cmp nat_cmp) ss;
}

abbrev Spelled : Bool → Piece → Type 0
Spelled include p = SpelledAt include p.releases_only p.start p.stop

any_spelled : (ss : List (Stretch (List ℕ))) → All (IsPlaced (slice_cmp nat_cmp) (one.IsKeyOf NearAny) (LastEnd NearAny)) ss
    → All (Spelled true) (all_flagged false ss)
any_spelled [] h = All-nil (Spelled true)
any_spelled (s ∷ ss) h =
    let p = All-head (IsPlaced (slice_cmp nat_cmp) (one.IsKeyOf NearAny) (LastEnd NearAny)) s ss h in
    All-cons (Spelled true) (flagged false s) (all_flagged false ss) (p.start, p.stop)
    (any_spelled ss (All-tail (IsPlaced (slice_cmp nat_cmp) (one.IsKeyOf NearAny) (LastEnd NearAny)) s ss h))

releases_spelled : (ss : List (Stretch (List ℕ))) → All (IsPlaced (slice_cmp nat_cmp) (one.IsKeyOf NearRelease) (LastEnd NearRelease)) ss
    → All (Spelled false) (all_flagged true ss)
releases_spelled [] h = All-nil (Spelled false)
releases_spelled (s ∷ ss) h =
    let p = All-head (IsPlaced (slice_cmp nat_cmp) (one.IsKeyOf NearRelease) (LastEnd NearRelease)) s ss h in
    All-cons (Spelled false) (flagged true s) (all_flagged true ss) (p.start, p.stop)
    (releases_spelled ss (All-tail (IsPlaced (slice_cmp nat_cmp) (one.IsKeyOf NearRelease) (LastEnd NearRelease)) s ss h))

pre_spelled : (ss : List (Stretch (List ℕ))) → All (IsPlaced (slice_cmp nat_cmp) IsPlainPre Ends) ss → All (Spelled false) (all_flagged false ss)
pre_spelled [] h = All-nil (Spelled false)
pre_spelled (s ∷ ss) h =
    let p = All-head (IsPlaced (slice_cmp nat_cmp) IsPlainPre Ends) s ss h in
    All-cons (Spelled false) (flagged false s) (all_flagged false ss) (p.start.1, inl (pre_stop s p))
    (pre_spelled ss (All-tail (IsPlaced (slice_cmp nat_cmp) IsPlainPre Ends) s ss h))

-- what such a list is
record Made (include : Bool) (r : List (Span VersionValue)) : Type 0 where
  list : List Piece
  sorted : are_sorted list ≡ true
  ends : All (PieceEnds include) list
  spelled : All (Spelled include) list
  exact : (v : VersionValue) → IsVersion v → in_pieces list (key v) ≡ accepts r v include

made : (include : Bool) (r : List (Span VersionValue)) → All IsSpan r → All PlainSpan r → Made include r
made true r h g =
    let vs : List (Stretch (List ℕ)) = line (versions r) in
    let is : IsCanonicalOf (versions r) vs = line_is (versions r) in
    let fit : All AnyPlaced vs = placed (one.IsKeyOf IsAny) (LastEnd IsAny) (last_parted IsAny) (versions r) vs (one.versions_fit r h) is in
    record {
      list = all_flagged false vs;
      sorted = sorted-flagged false vs is.canonical;
      ends = all_any_ends vs fit;
      spelled = any_spelled vs (placed (one.IsKeyOf NearAny) (LastEnd NearAny) (last_parted NearAny) (versions r) vs (versions_fit r g) is);
      exact = λ v k. all_exact r v h k vs is;
    }
made false r h g =
    let rs : List (Stretch (List ℕ)) = line (releases r) in
    let ps : List (Stretch (List ℕ)) = line (pre_releases r) in
    let is : IsCanonicalOf (releases r) rs = line_is (releases r) in
    let are : IsCanonicalOf (pre_releases r) ps = line_is (pre_releases r) in
    let fit : All ReleasePlaced rs = placed (one.IsKeyOf IsRelease) (LastEnd IsRelease) (last_parted IsRelease) (releases r) rs (one.releases_fit r h) is in
    let others : All PrePlaced ps = placed IsPreKey Ends parted (pre_releases r) ps (pre.pre_releases_fit r h) are in
    record {
      list = all_flagged true rs ++ all_flagged false ps;
      sorted = sorted-both rs ps is.canonical are.canonical;
      ends = All-append (PieceEnds false) (all_flagged true rs) (all_flagged false ps) (all_release_ends rs fit) (all_pre_ends ps are.canonical others);
      spelled = All-append (Spelled false) (all_flagged true rs) (all_flagged false ps)
          (releases_spelled rs (placed (one.IsKeyOf NearRelease) (LastEnd NearRelease) (last_parted NearRelease) (releases r) rs (releases_fit r g) is))
          (pre_spelled ps (placed IsPlainPre Ends plain_parted (pre_releases r) ps (pre_releases_fit r g) are));
      exact = λ v k. gate_exact r v h k rs ps is are;
    }

-- each list of spans with the versions of a range is that one
spelled : (include : Bool) (spans : List KeySpan) (r : List (Span VersionValue)) → IsRange MAX_SAFE_INTEGER r → IsCanonical include spans
    → IsRangeOf include spans r → All (Spelled include) (pieces spans)
spelled include spans r range canonical same =
    let small : MAX_SAFE_INTEGER + 1 < 2 ^ 64 = omega arith in
    let all : All IsSpan r = range_spans MAX_SAFE_INTEGER r small range in
    let m : Made include r = made include r all (plain_spans r all range.each) in
    subst (All (Spelled include)) (one_by include m.list (pieces spans) m.sorted m.ends (sym (is_sorted-pieces spans) ∙ canonical.0)
    (All-map (PieceEnds include) piece spans canonical.1)
    (λ v k. m.exact v k ∙ (same v k ∙ in_spans-pieces spans (key v)))) m.spelled

-- ---- spans and their intervals, one by one

one_of : (include : Bool) (s : KeySpan) (i : Span VersionValue) → HasEnds include s → IsIntervalOf s i → (v : VersionValue) → IsVersion v
    → accepts_one i v include ≡ in_span s (key v)
one_of include s i h g v k = ap (λ x. accepts_one x v include) g.value
    ∙ one_exact include s.releases_only s.start.items s.stop.items g.first g.last g.starts g.ends
    (begins_so include s.releases_only s.start.items s.stop.items g.first h g.starts)
    (stops_so include s.releases_only s.start.items s.stop.items g.first g.last h g.starts g.ends) v k

pub list_exact : (include : Bool) (spans : List KeySpan) (r : List (Span VersionValue)) → All (HasEnds include) spans → AllZip IsIntervalOf spans r
    → IsRangeOf include spans r
list_exact include [] [] h g v k = refl
list_exact include [] (i ∷ r) h g v k = absurd g
list_exact include (s ∷ spans) [] h g v k = absurd g
list_exact include (s ∷ spans) (i ∷ r) h g v k =
    let first : accepts_one i v include ≡ in_span s (key v) = one_of include s i (All-head (HasEnds include) s spans h) g.0 v k in
    let rest = list_exact include spans r (All-tail (HasEnds include) s spans h) g.1 v k in
    λ j. first j || rest j

pub interval_is : (include : Bool) (s : KeySpan) (i : Span VersionValue) → HasEnds include s → is_some_span s ≡ true → IsIntervalOf s i
    → is_interval precedence i ≡ true
interval_is include s i h l g = ap (is_interval precedence) g.value
    ∙ one_interval include s.releases_only s.start.items s.stop.items g.first g.last g.starts g.ends
    (begins_so include s.releases_only s.start.items s.stop.items g.first h g.starts)
    (stops_so include s.releases_only s.start.items s.stop.items g.first g.last h g.starts g.ends) l

bounds_are : (include : Bool) (s : KeySpan) (i : Span VersionValue) → HasEnds include s → is_some_span s ≡ true → IsIntervalOf s i
    → Spelled include (piece s) → are_bounds i ≡ true
bounds_are include s i h l g p = ap are_bounds g.value
    ∙ one_bounded include s.releases_only s.start.items s.stop.items g.first g.last g.starts g.ends
    (begins_so include s.releases_only s.start.items s.stop.items g.first h g.starts)
    (stops_so include s.releases_only s.start.items s.stop.items g.first g.last h g.starts g.ends) l p

-- a span holds the key with which it begins
first_held : (include : Bool) (s : KeySpan) (h : HasEnds include s) → is_some_span s ≡ true → in_span s (key h.first) ≡ true
first_held include s h full = subst (λ k. in_span s k ≡ true) h.at_first
    (first_in_bytes include s.releases_only s.start.items s.stop.items h.first h.fits_first h.at_first full)

-- ---- lists

abbrev pub IsSomeSpan : KeySpan → Type 0
IsSomeSpan s = is_some_span s ≡ true

pub all_some : (spans : List KeySpan) → is_sorted spans ≡ true → All IsSomeSpan spans
all_some [] h = All-nil IsSomeSpan
all_some (s ∷ []) h = All-cons IsSomeSpan s [] h (All-nil IsSomeSpan)
all_some (s ∷ t ∷ spans) h = All-cons IsSomeSpan s (t ∷ spans) (and_first _ _ h)
    (all_some (t ∷ spans) (and_second (is_behind s t) _ (and_second (is_some_span s) _ h)))

list_bounds : (include : Bool) (spans : List KeySpan) (r : List (Span VersionValue)) → All (HasEnds include) spans → All IsSomeSpan spans
    → All (Spelled include) (pieces spans) → AllZip IsIntervalOf spans r
    → list_all (λ s. is_interval precedence s && (is_range_bound top s.lower && is_range_bound top s.upper)) r ≡ true
list_bounds include [] [] h l p g = refl
list_bounds include [] (i ∷ r) h l p g = absurd g
list_bounds include (s ∷ spans) [] h l p g = absurd g
list_bounds include (s ∷ spans) (i ∷ r) h l p g =
    let ends : HasEnds include s = All-head (HasEnds include) s spans h in
    let some : is_some_span s ≡ true = All-head IsSomeSpan s spans l in
    and_from _ _ (and_from _ _ (interval_is include s i ends some g.0)
    (bounds_are include s i ends some g.0 (All-head (Spelled include) (piece s) (pieces spans) p)))
    (list_bounds include spans r (All-tail (HasEnds include) s spans h) (All-tail IsSomeSpan s spans l)
    (All-tail (Spelled include) (piece s) (pieces spans) p) g.1)

-- the intervals of spans with the versions of a range are those of a range, if there are any
pub made_range : (include : Bool) (spans : List KeySpan) (r made : List (Span VersionValue)) → IsCanonical include spans
    → AllZip IsIntervalOf spans made → IsRange MAX_SAFE_INTEGER r → IsRangeOf include spans r → 0 < length made → IsRange MAX_SAFE_INTEGER made
made_range include spans r made canonical zip range same some = record {
  some = some;
  each = list_bounds include spans made canonical.1 (all_some spans canonical.0) (spelled include spans r range canonical same) zip;
}

pub zip_none : (spans : List KeySpan) → AllZip IsIntervalOf spans [] → spans ≡ []
zip_none [] g = refl
zip_none (s ∷ spans) g = absurd g

pub zip_push : (spans : List KeySpan) (r : List (Span VersionValue)) (s : KeySpan) (i : Span VersionValue) → AllZip IsIntervalOf spans r → IsIntervalOf s i
    → AllZip IsIntervalOf (spans ++ s ∷ []) (r ++ i ∷ [])
zip_push [] [] s i h g = (g, tt)
zip_push [] (j ∷ r) s i h g = absurd h
zip_push (t ∷ spans) [] s i h g = absurd h
zip_push (t ∷ spans) (j ∷ r) s i h g = (h.0, zip_push spans r s i h.1 g)

-- ---- the interval of a span, if its cuts are in order

some_by : (t : Bool) (s : KeySpan) (i : Span VersionValue) → IsIntervalOf s i → IfSome (if t then Some i else None) (IsIntervalOf s)
some_by true s i h = h
some_by false s i h = tt

pub interval_some : (s : KeySpan) (i : Span VersionValue) (found : Option (Span VersionValue)) → found ≡ interval precedence i → IsIntervalOf s i
    → IfSome found (IsIntervalOf s)
interval_some s i found e h = subst (λ o. IfSome o (IsIntervalOf s)) (sym e) (some_by (is_interval precedence i) s i h)

none_by : (t : Bool) (s : KeySpan) (i : Span VersionValue) → is_interval precedence i ≡ t → IsIntervalOf s i
    → IfNone (if t then Some i else None) ((include : Bool) → HasEnds include s → is_some_span s ≡ false)
none_by true s i e h = tt
none_by false s i e h = λ include ends. not-true (is_some_span s) (by_bool (is_some_span s)
    (λ l. false_true (is_interval precedence i) e (interval_is include s i ends l h)) (λ l. ap not l))

pub interval_none : (s : KeySpan) (i : Span VersionValue) (found : Option (Span VersionValue)) → found ≡ interval precedence i → IsIntervalOf s i
    → IfNone found ((include : Bool) → HasEnds include s → is_some_span s ≡ false)
interval_none s i found e h = subst (λ o. IfNone o ((include : Bool) → HasEnds include s → is_some_span s ≡ false)) (sym e)
    (none_by (is_interval precedence i) s i refl h)

-- a stop that is no key, and not above all keys
pub no_stop : (s : KeySpan) → (s.stop.items ≡ end_key → ⊥) → ((v : VersionValue) → IsVersion v → ¬ (key v ≡ s.stop.items))
    → (include : Bool) → HasEnds include s → is_some_span s ≡ false
no_stop s e n include h = absurd (elim h.at_last [ inl u ↦ n u.0 u.1 (sym u.2) | inr u ↦ e u.0 ])

-- ---- the loop

pub one_further : (spans : List KeySpan) (n : ℕ) (s : KeySpan) (is more : List (Span VersionValue)) (i : Span VersionValue) → n < length spans
    → s ≡ get_or spans n s → AllZip IsIntervalOf (take n spans) is → IsIntervalOf s i → more ≡ is ++ i ∷ []
    → AllZip IsIntervalOf (take (n + 1) spans) more
one_further spans n s is more i lt at zip g e = subst (AllZip IsIntervalOf (take (n + 1) spans)) (sym e)
    (subst (λ l. AllZip IsIntervalOf l (is ++ i ∷ [])) (ap (λ x. take n spans ++ x ∷ []) at ∙ sym (take_more spans n s lt))
    (zip_push (take n spans) is s i zip g))

pub no_gap : (spans : List KeySpan) (n : ℕ) (s : KeySpan) → n < length spans → s ≡ get_or spans n s
    → ((include : Bool) → HasEnds include s → is_some_span s ≡ false) → (include : Bool) → IsCanonical include spans → {C : Type 0} → C
no_gap spans n s lt at none include h = false_true (is_some_span s)
    (none include (subst (HasEnds include) (sym at) (All-get_or (HasEnds include) spans n s lt h.1)))
    (subst IsSomeSpan (sym at) (All-get_or IsSomeSpan spans n s lt (all_some spans h.0)))

-- ---- its end

abbrev pub AsMade : {E : Type 0} → List (Span VersionValue) → Result (List (Span VersionValue)) E → Type 0
AsMade is res = IfOk res (λ range. range ≡ map (span_of (λ (v : VersionValue). v)) is)

zip_by : {E : Type 0} (spans : List KeySpan) (is : List (Span VersionValue)) (res : Result (List (Span VersionValue)) E)
    → AllZip IsIntervalOf spans is → AsMade is res → IfSome (result_ok res) (AllZip IsIntervalOf spans)
zip_by spans is (Ok r) zip e = subst (AllZip IsIntervalOf spans) (sym (e ∙ spans_same is)) zip
zip_by spans is (Err x) zip e = tt

pub zip_made : {E : Type 0} (spans : List KeySpan) (is : List (Span VersionValue)) (res : Result (List (Span VersionValue)) E)
    (found : Option (List (Span VersionValue))) → found ≡ result_ok res → AllZip IsIntervalOf spans is → AsMade is res
    → IfSome found (AllZip IsIntervalOf spans)
zip_made spans is res found f zip e = subst (λ o. IfSome o (AllZip IsIntervalOf spans)) (sym f) (zip_by spans is res zip e)

pub exact_made : (spans : List KeySpan) (found : Option (List (Span VersionValue))) → IfSome found (AllZip IsIntervalOf spans)
    → IfSome found (λ r. (include : Bool) → IsCanonical include spans → IsRangeOf include spans r)
exact_made spans None zip = tt
exact_made spans (Some r) zip = λ include h. list_exact include spans r h.1 zip

abbrev pub NoRange : List KeySpan → Type 0
NoRange spans = (include : Bool) → IsCanonical include spans → (r : List (Span VersionValue)) → IsRange MAX_SAFE_INTEGER r
    → IsRangeOf include spans r → spans ≡ []

no_range_by : (spans : List KeySpan) (is : List (Span VersionValue)) → AllZip IsIntervalOf spans is → (IsRange MAX_SAFE_INTEGER is → ⊥) → NoRange spans
no_range_by spans [] zip none include h r range same = zip_none spans zip
no_range_by spans (i ∷ is) zip none include h r range same =
    absurd (none (made_range include spans r (i ∷ is) h zip range same (omega arith)))

none_of : {E : Type 0} (spans : List KeySpan) (is : List (Span VersionValue)) (res : Result (List (Span VersionValue)) E)
    → AllZip IsIntervalOf spans is → (IsOk res ↔ IsRange MAX_SAFE_INTEGER (map (span_of (λ (v : VersionValue). v)) is))
    → IfNone (result_ok res) (NoRange spans)
none_of spans is (Ok r) zip e = tt
none_of spans is (Err x) zip e = no_range_by spans is zip
    (λ range. true≢false (sym (e.1 (subst (IsRange MAX_SAFE_INTEGER) (sym (spans_same is)) range))))

pub none_made : {E : Type 0} (spans : List KeySpan) (is : List (Span VersionValue)) (res : Result (List (Span VersionValue)) E)
    (found : Option (List (Span VersionValue))) → found ≡ result_ok res → AllZip IsIntervalOf spans is
    → (IsOk res ↔ IsRange MAX_SAFE_INTEGER (map (span_of (λ (v : VersionValue). v)) is)) → IfNone found (NoRange spans)
none_made spans is res found f zip e = subst (λ o. IfNone o (NoRange spans)) (sym f) (none_of spans is res zip e)

empty_by : {E : Type 0} (is : List (Span VersionValue)) (res : Result (List (Span VersionValue)) E) → AllZip IsIntervalOf [] is
    → (IsOk res ↔ IsRange MAX_SAFE_INTEGER (map (span_of (λ (v : VersionValue). v)) is)) → result_ok res ≡ None
empty_by [] (Ok r) zip e = absurd (let u = (e.0 refl).some in omega arith)
empty_by [] (Err x) zip e = refl
empty_by (i ∷ is) res zip e = absurd zip

pub empty_made : {E : Type 0} (spans : List KeySpan) (is : List (Span VersionValue)) (res : Result (List (Span VersionValue)) E)
    (found : Option (List (Span VersionValue))) → found ≡ result_ok res → AllZip IsIntervalOf spans is
    → (IsOk res ↔ IsRange MAX_SAFE_INTEGER (map (span_of (λ (v : VersionValue). v)) is)) → spans ≡ [] → found ≡ None
empty_made spans is res found f zip e none = f ∙ empty_by is res (subst (λ l. AllZip IsIntervalOf l is) none zip) e

-- ---- the simplified range

pub if_ok : {T E : Type 0} (P Q : T → Type 0) (res : Result T E) → ((found : T) → P found → Q found) → IfOk res P → IfOk res Q
if_ok P Q (Ok found) so h = so found h
if_ok P Q (Err x) so h = tt

first_in : (include : Bool) (spans : List KeySpan) → IsCanonical include spans → (spans ≡ [] → ⊥)
    → (v : VersionValue) × IsVersion v × (in_spans spans (key v) ≡ true)
first_in include [] h some = absurd (some refl)
first_in include (s ∷ spans) h some =
    let ends : HasEnds include s = All-head (HasEnds include) s spans h.1 in
    let full : is_some_span s ≡ true = All-head IsSomeSpan s spans (all_some (s ∷ spans) h.0) in
    (ends.first, ends.is_version, or_left (in_span s (key ends.first)) _ (first_held include s ends full))

module _ (include : Bool) (range : List (Span VersionValue)) (spans : List KeySpan) (canonical : IsCanonical include spans)
    (same : (v : VersionValue) → IsVersion v → in_spans spans (key v) ≡ accepts range v include) where
  pub simple_exact : (found : Option (List (Span VersionValue))) → IfSome found (λ r. (with : Bool) → IsCanonical with spans → IsRangeOf with spans r)
      → IfSome found (λ r. (v : VersionValue) → IsVersion v → accepts r v include ≡ accepts range v include)
  simple_exact None h = tt
  simple_exact (Some r) h = λ v k. h include canonical v k ∙ same v k

  pub is_simple : (found : Option (List (Span VersionValue))) → IfSome found (AllZip IsIntervalOf spans) → IfSome found (IsSimple include)
  is_simple None h = tt
  is_simple (Some r) h = (spans, canonical, h)

  pub simple_some : (found : Option (List (Span VersionValue))) → (spans ≡ [] → found ≡ None)
      → IfSome found (λ r. (v : VersionValue) × IsVersion v × (accepts range v include ≡ true))
  simple_some None h = tt
  simple_some (Some r) h =
      let first = first_in include spans canonical (λ e. cc (h e)) in
      (first.0, first.1, sym (same first.0 first.1) ∙ first.2)

  pub simple_none : (found : Option (List (Span VersionValue))) → IsRange MAX_SAFE_INTEGER range → IfNone found (NoRange spans)
      → IfNone found ((v : VersionValue) → IsVersion v → accepts range v include ≡ false)
  simple_none None valid h =
      let none : spans ≡ [] = h include canonical range valid (λ v k. sym (same v k)) in
      λ v k. sym (same v k) ∙ ap (λ l. in_spans l (key v)) none
  simple_none (Some r) valid h = tt
