-- Ranges that the caller keeps: what each interval is decides what all are, and what is told of them leads back.
use Rattle.std.proofs.Common.{◌≡◌, ◌<◌, ◌≤◌, ◌+◌, ◌-◌, ◌==◌, ◌^◌, ◌++◌, ◌∷◌, ◌∙◌, ◌&&◌, ◌⊎◌, All, List, []}
use Rattle.std.proofs.Common.{ap, append-nil, arith, drop, false, get_or, inl, inr, length, length-append, map, min}
use Rattle.std.proofs.Common.{refl, set, suc, sym, take, true, true≢false, zero, ℕ}
use Rattle.std.proofs.lemmas.Grind.{flat_map-append}
use Rattle.std.proofs.lemmas.List.{length-map, length-take-le, take_more}
use Rattle.std.proofs.lemmas.List.Folds.{list_all_at, list_all_more}
use Rattle.std.specs.List.{list_all}
use Rattle.std.specs.List.{Any}
use Rattle.nodejs_semver.proofs.Common.{and_parts, nat_tests}
use Rattle.std.proofs.lemmas.List.Elements.{All-cons, All-nil}
use Rattle.semver_core.proofs.Normal.{identifiers-normal}
use Rattle.semver_core.specs.Cuts.{Span, is_interval}
use Rattle.semver_core.specs.Printing.RoundTrip.{is_normal, is_readable}
use Rattle.semver_core.specs.Text.Identifiers.{is_listed, listed}
use Rattle.semver_core.specs.Values.Gate.{is_range_bound}
use Rattle.semver_core.specs.Values.Order.{precedence}
use Rattle.semver_core.specs.Values.Versions.{VersionValue}
use Rattle.semver_core.specs.declared.TheConstants.{MAX_SAFE_INTEGER}
use Rattle.semver_core.specs.declared.cuts.bound.Bound as cuts
use Rattle.semver_core.specs.declared.cuts.bound.Bound.TheVariants.{Unbounded, Before, After}
use Rattle.nodejs_semver.proofs.Values.{map-further, spans_same}
use Rattle.nodejs_semver.specs.Internal.Sets.{is_range_span}
use Rattle.nodejs_semver.specs.Internal.Shorthands.{spans_of}
use Rattle.nodejs_semver.specs.Ranges.View.{IsRange}
use Rattle.nodejs_semver_c.proofs.Keeping.{list_kept}
use Rattle.nodejs_semver_c.proofs.Places.{filled}
use Rattle.nodejs_semver_c.proofs.Putting.{put_first}
use Rattle.nodejs_semver_c.specs.Internal.Keeps.{RefusesInterval, keeps}
use Rattle.nodejs_semver_c.specs.Kept.{ComesBack, IsKept}
use Rattle.nodejs_semver_c.specs.Internal.Pieces.{Adds}
use Rattle.nodejs_semver_c.specs.KeptRanges.{BoundComesBack, IsKeptRange, RefusesIntervals, RefusesKeptRange, TellsRange, bound_texts, is_spelled}
use Rattle.nodejs_semver_c.specs.KeptRanges.{kept_span, range_texts, span_parts}
use Rattle.nodejs_semver_c.specs.declared.intervals.IntervalParts.{IntervalParts}
use Rattle.nodejs_semver_c.specs.declared.intervals.Interval.{Interval}
use Rattle.nodejs_semver_c.specs.declared.kept.Version.{Version}

-- ---- versions of bounds

pub listed_normal : (s : List ℕ) → is_listed s ≡ true → list_all is_normal (listed s) ≡ true
unfolding is_listed listed
listed_normal [] h = refl
listed_normal (c ∷ rest) h = identifiers-normal (c ∷ rest) _ (record { runs = h; spelled = refl })

pub kept_readable : (limit : ℕ) (p : Version) (v : VersionValue) → IsKept p v → p.major ≤ limit → p.minor ≤ limit → p.patch ≤ limit
    → is_readable limit v ≡ true
kept_readable limit p v kept major minor patch =
    let pre = listed_normal p.pre_release.now kept.0 in
    let build = listed_normal p.build.now kept.1 in
    rw (kept.2, pre, build) (grind (arith, nat_tests, major, minor, patch))

-- ---- all intervals

-- an element is the same, whatever stands for those behind the end
pub at_default : {X : Type 0} (xs : List X) (i : ℕ) (d e : X) → i < length xs → get_or xs i d ≡ get_or xs i e
at_default [] i d e lt = absurd (omega arith)
at_default (x ∷ xs) zero d e lt = refl
at_default (x ∷ xs) (suc i) d e lt = at_default xs i d e (omega (arith, lt))

spelled_all : (is : List Interval) → list_all keeps is ≡ true → list_all (λ i. is_spelled i.lower && is_spelled i.upper) is ≡ true
spelled_all [] h = refl
spelled_all (i ∷ is) h =
    let both = and_parts (keeps i) (list_all keeps is) h in
    let first = and_parts (is_spelled i.lower && is_spelled i.upper) _ both.0 in
    rw (first.0, spelled_all is both.1) refl

spans_all : (is : List Interval) → list_all keeps is ≡ true → list_all (is_range_span (MAX_SAFE_INTEGER + 1)) (map kept_span is) ≡ true
spans_all [] h = refl
spans_all (i ∷ is) h =
    let both = and_parts (keeps i) (list_all keeps is) h in
    let first = and_parts (is_spelled i.lower && is_spelled i.upper) _ both.0 in
    rw (first.1, spans_all is both.1) refl

some_spans : (is : List Interval) → 0 < length is → 0 < length (map kept_span is)
some_spans [] lt = absurd (omega arith)
some_spans (i ∷ is) lt = omega arith

pub kept_all : (is : List Interval) → list_all keeps is ≡ true → 0 < length is → IsKeptRange is (map kept_span is)
kept_all is h some = (spelled_all is h, refl, record { some = some_spans is some; each = spans_all is h })

keeps_all : (is : List Interval) → list_all (λ i. is_spelled i.lower && is_spelled i.upper) is ≡ true
    → list_all (is_range_span (MAX_SAFE_INTEGER + 1)) (map kept_span is) ≡ true → list_all keeps is ≡ true
keeps_all [] h k = refl
keeps_all (i ∷ is) h k =
    let spelled = and_parts (is_spelled i.lower && is_spelled i.upper) _ h in
    let spans = and_parts (is_range_span (MAX_SAFE_INTEGER + 1) (kept_span i)) _ k in
    rw (spelled.0, spans.0, keeps_all is spelled.1 spans.1) refl

pub kept_each : (is : List Interval) (r : List (Span VersionValue)) → IsKeptRange is r → list_all keeps is ≡ true
kept_each is r kept = keeps_all is kept.0 (rw kept.1 at kept.2.each)

pub keeps_more : (is : List Interval) (at : ℕ) (i : Interval) → at < length is → i ≡ get_or is at i → keeps i ≡ true
    → list_all keeps (take at is) ≡ true → list_all keeps (take (at + 1) is) ≡ true
keeps_more is at i lt same one all = list_all_more keeps is at i lt ∙ rw (sym same, all, one) refl

-- ---- what is rejected

pub refused_one : (is : List Interval) (status : ℕ) → Any (λ i. RefusesInterval i status) is → RefusesIntervals is status
refused_one is status (k, i, lt, same, inl texts) = inl (k, i, lt, same, texts)
refused_one is status (k, i, lt, same, inr (e, fails)) =
    inr (inl (e, λ r kept. true≢false (sym (kept_each is r kept) ∙ list_all_at keeps is k i lt (rw same fails))))

pub refused_none : (is : List Interval) → length is ≡ 0 → RefusesIntervals is 5
refused_none [] e = inr (inl (refl, λ r kept. absurd (omega (arith, rw kept.1 at kept.2.some))))
refused_none (i ∷ is) e = absurd (omega arith)

pub refused_memory : (is : List Interval) → 1 < length is → list_all keeps is ≡ true → RefusesKeptRange is 10
refused_memory is many h = inr (refl, many, (map kept_span is, kept_all is h (omega (arith, many))))

pub refused_room : (is : List Interval) (status : ℕ) → (length is ≤ 1 → ⊥)
    → Any (λ i. RefusesInterval i status) is ⊎ ((status ≡ 10) × (list_all keeps is ≡ true)) → RefusesKeptRange is status
refused_room is status many (inl one) = inl (refused_one is status one)
refused_room is status many (inr (e, all)) = rw e (refused_memory is (omega (arith, many)) all)

-- ---- what is kept

-- a range of all of them
made : (is : List Interval) (items : List (Span VersionValue)) → items ≡ map kept_span is → list_all keeps is ≡ true
    → false ≡ (length items == 0) → IsKeptRange is items
made is items e all some =
    let counted : length items ≡ length is = ap length e ∙ length-map is kept_span in
    let more : 0 < length is = grind (arith, nat_tests, counted, some) in
    rw e (kept_all is all more)

pub range_made : (is : List Interval) (items : List (Span VersionValue)) → items ≡ map kept_span is → list_all keeps is ≡ true
    → false ≡ (length items == 0) → IsRange MAX_SAFE_INTEGER (spans_of (λ v. v) items)
range_made is items e all some = rw (spans_same items) (made is items e all some).2

pub range_kept : (is : List Interval) (items r : List (Span VersionValue)) → items ≡ map kept_span is → list_all keeps is ≡ true
    → false ≡ (length items == 0) → r ≡ spans_of (λ v. v) items → IsKeptRange is r
range_kept is items r e all some same = rw (same ∙ spans_same items) (made is items e all some)

-- ---- what is told

back : (limit : ℕ) (v : VersionValue) → is_readable limit v ≡ true → ComesBack v
back limit v h =
    let both = and_parts _ (list_all is_normal v.pre_release && list_all is_normal v.build) h in
    let lists = and_parts (list_all is_normal v.pre_release) (list_all is_normal v.build) both.1 in
    let pre = list_kept v.pre_release lists.0 in
    let build = list_kept v.build lists.1 in
    (pre.0, pre.1, build.0, build.1)

bound_back : (limit : ℕ) (b : cuts.Bound VersionValue) → is_range_bound limit b ≡ true → BoundComesBack b
bound_back limit Unbounded h = tt
bound_back limit (Before v) h = back limit v h
bound_back limit (After v) h = back limit v h

abbrev SpanComesBack : Span VersionValue → Type 0
SpanComesBack s = BoundComesBack s.lower × BoundComesBack s.upper

spans_back : (r : List (Span VersionValue)) → list_all (is_range_span (MAX_SAFE_INTEGER + 1)) r ≡ true
    → All SpanComesBack r
spans_back [] h = All-nil SpanComesBack
spans_back (s ∷ r) h =
    let both = and_parts (is_range_span (MAX_SAFE_INTEGER + 1) s) _ h in
    let parts = and_parts (is_interval precedence s) _ both.0 in
    let ends = and_parts (is_range_bound (MAX_SAFE_INTEGER + 1) s.lower) _ parts.1 in
    All-cons SpanComesBack s r (bound_back _ s.lower ends.0, bound_back _ s.upper ends.1) (spans_back r both.1)

pub range_back : (r : List (Span VersionValue)) → IsRange MAX_SAFE_INTEGER r
    → All (λ s. BoundComesBack s.lower × BoundComesBack s.upper) r
range_back r is = spans_back r is.each

-- the parts of one more interval
pub parts_more : (r : List (Span VersionValue)) (at : ℕ) (s : Span VersionValue) (x : IntervalParts) (old now : List IntervalParts)
    → at < length r → s ≡ get_or r at s → x ≡ span_parts s → length r ≤ length old → now ≡ map span_parts (take at r) ++ drop at old
    → set now at x ≡ map span_parts (take (at + 1) r) ++ drop (at + 1) old
parts_more r at s x old now lt is e room told =
    let counted : length (map span_parts (take at r)) ≡ at =
    length-map (take at r) span_parts ∙ length-take-le at r (omega (arith, lt)) in
    rw (told, e, map-further span_parts r at s lt is)
    (filled (map span_parts (take at r)) old (span_parts s) (span_parts s) at counted (omega (arith, lt, room)))

-- all of them, or only their number and the length of their texts
module _ (r list : List (Span VersionValue)) (same : list ≡ r) (is : IsRange MAX_SAFE_INTEGER r) (told : List IntervalParts)
    (old : List ℕ) (needed count_old len_old : ℕ) (e : needed ≡ min (length (range_texts list)) (2 ^ 64 - 1)) (small : needed < 2 ^ 63) where
  counted : needed ≡ length (range_texts list)
  counted = grind (arith, e, small)

  pub range_short : (length told < length list) ⊎ (length old < needed)
      → TellsRange r told told count_old (length list) old old len_old needed 2
  range_short short =
      let whole : needed ≡ length (range_texts r) = rw same at counted in
      let some : (length told < length r) ⊎ (length old < length (range_texts r)) = rw (same, whole) at short in
      rw (same, whole) (inl (range_back r is, refl, refl, inr (refl, some, refl, refl)))

  pub range_put : (now : List IntervalParts) (new : List ℕ) (end : ℕ) → needed ≤ length old
      → now ≡ map span_parts list ++ drop (length list) told → Adds (range_texts list) old new 0 end
      → TellsRange r told now count_old (length list) old new len_old needed 0
  range_put now new end fits put adds =
      let whole : needed ≡ length (range_texts r) = rw same at counted in
      let added : Adds (range_texts r) old new 0 end = rw same at adds in
      let told_all : now ≡ map span_parts r ++ drop (length r) told = rw same at put in
      let front = (put_first (range_texts r) old new end added).front (omega (arith, whole, fits)) (omega (arith, whole, small)) in
      rw (same, whole) (inl (range_back r is, refl, refl, inl (refl, told_all, front)))

-- the texts of the first intervals are no longer than all
pub texts_front : (r : List (Span VersionValue)) (n : ℕ) → length (range_texts (take n r)) ≤ length (range_texts r)
texts_front [] zero = omega arith
texts_front [] (suc n) = omega arith
texts_front (s ∷ r) zero = omega arith
texts_front (s ∷ r) (suc n) = omega (
  arith,
  texts_front r n,
  length-append (bound_texts s.lower ++ bound_texts s.upper) (range_texts r),
  length-append (bound_texts s.lower ++ bound_texts s.upper) (range_texts (take n r)),
)

pub texts_more : (r : List (Span VersionValue)) (i : ℕ) (s : Span VersionValue) → i < length r → s ≡ get_or r i s
    → range_texts (take i r) ++ (bound_texts s.lower ++ bound_texts s.upper) ≡ range_texts (take (i + 1) r)
texts_more r i s lt is =
    let taken : take (i + 1) r ≡ take i r ++ s ∷ [] = take_more r i s lt ∙ ap (λ t. take i r ++ t ∷ []) (sym is) in
    rw (taken, flat_map-append, append-nil) refl

-- what stands for a version behind the end of an array
abbrev pub no_version : Version
no_version = record {
  major = 0;
  minor = 0;
  patch = 0;
  pre_release = record { ref_ptr = (0, 0); now = [] };
  build = record { ref_ptr = (0, 0); now = [] };
}

abbrev pub no_interval : Interval
no_interval = record {
  lower = record { kind = 0; version = no_version };
  upper = record { kind = 0; version = no_version };
}
