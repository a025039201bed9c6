-- The stretches of all versions are exact.
use Rattle.std.proofs.Common.{ℕ, ◌≡◌, ◌<◌, ◌^◌, ◌∷◌, ◌&&◌, ◌||◌, List, [], Bool, true, false, not, refl, ap, arith, ◌∙◌, sym, true≢false}
use Rattle.std.proofs.Math.Bool.{and-true}
use Rattle.std.specs.Prelude.{All, if◌then◌else◌}
use Rattle.std.proofs.lemmas.List.Elements.{All-cons, All-head, All-nil, All-tail}
use Rattle.std.specs.Ordering.{is_le, is_lt, nat_cmp, ordering_then}
use Rattle.std.specs.Cmp.Lexicographic.{slice_cmp}
use Rattle.std.specs.declared.cmp.Ordering.{Ordering}
use Rattle.std.specs.declared.cmp.Ordering.TheVariants.{Less, Equal, Greater}
use Rattle.key_spans.specs.Internal.Places.{IsEnd, IsSpan, end_key, lowest_key, next_place, one_more, version_place, version_stretch, versions}
use Rattle.key_spans.specs.Internal.Sets.{has, holds}
use Rattle.key_spans.proofs.PreReleases.{past_more, then_three}
use Rattle.key_spans.proofs.Releases.{IsInOrder, below_end, next_past, release_is, zero_le}
use Rattle.key_spans.proofs.Keys as of_keys
use Rattle.key_spans.proofs.Keys.{le, lt, numbers_cmp}
use Rattle.semver_core.specs.Cuts as cuts
use Rattle.semver_core.specs.Cuts.{Span, is_past, lower_cut, upper_cut}
use Rattle.nodejs_semver.specs.Ranges.Gate.{accepts}
use Rattle.semver_core.specs.Keys.{key}
use Rattle.semver_core.specs.Lists.{is_empty}
use Rattle.semver_core.specs.Text.Identifiers.{Id, Numeric}
use Rattle.semver_core.specs.Values.Order.{pre_cmp, precedence}
use Rattle.semver_core.specs.Values.Versions.{IsId, IsVersion, VersionValue, is_release, lowest, release_value}
use Rattle.semver_core.specs.declared.cuts.bound.Bound.{Bound}
use Rattle.semver_core.specs.declared.cuts.bound.Bound.TheVariants.{Unbounded, Before, After}

pub lowest_is : (M m p : ℕ) → M < 2 ^ 64 → m < 2 ^ 64 → p < 2 ^ 64 → IsVersion (lowest M m p)
lowest_is M m p h g f = record {
  major = h;
  minor = g;
  patch = f;
  build = All-nil IsId;
  pre_release = All-cons IsId (Numeric 0) [] (omega arith) (All-nil IsId);
}

in_order : (v : VersionValue) → IsVersion v → IsInOrder lowest_key v
in_order v k = λ M m p h g f. of_keys.lowest_past (release_value M m p) v (release_is M m p h g f) k

-- nothing is above a release of the same numbers
not_below : (xs ys : List Id) → is_empty xs ≡ true → is_lt (pre_cmp xs ys) ≡ false
not_below [] [] h = refl
not_below [] (y ∷ ys) h = refl
not_below (x ∷ xs) ys h = absurd (true≢false (sym h))

next_cases : (o q : Ordering) → is_lt q ≡ false → is_lt o ≡ is_le (ordering_then (ordering_then o q) Greater)
next_cases Less q h = refl
next_cases Equal Less h = absurd (true≢false h)
next_cases Equal Equal h = refl
next_cases Equal Greater h = refl
next_cases Greater q h = refl

after_past : (b : Bool) (w v : VersionValue) → is_release w ≡ b → IsVersion w → IsVersion v
    → le (if b then next_place lowest_key w else key (one_more w)) (key v) ≡ is_le (ordering_then (precedence w v) Greater)
after_past true w v e g h =
    next_past lowest_key w v (in_order v h) g h
    ∙ (next_cases (numbers_cmp w v) (pre_cmp w.pre_release v.pre_release) (not_below w.pre_release v.pre_release e)
    ∙ ap (λ o. is_le (ordering_then o Greater))
    (sym (then_three (nat_cmp w.major v.major) (nat_cmp w.minor v.minor) (nat_cmp w.patch v.patch) _ (pre_cmp w.pre_release v.pre_release) refl)))
after_past false w v e g h = past_more w v e g h

pub lower_past : (b : Bound VersionValue) (v : VersionValue) → IsEnd b → IsVersion v
    → le (version_place b (lowest_key 0 0 0)) (key v) ≡ is_past precedence (lower_cut b) v
lower_past Unbounded v g h = in_order v h 0 0 0 (omega arith) (omega arith) (omega arith) ∙ zero_le v
lower_past (Before w) v g h = of_keys.past_key w v g h
lower_past (After w) v g h = after_past (is_release w) w v refl g h

pub upper_past : (b : Bound VersionValue) (v : VersionValue) → IsEnd b → IsVersion v
    → lt (key v) (version_place b end_key) ≡ not (is_past precedence (upper_cut b) v)
upper_past Unbounded v g h = below_end v h
upper_past (Before w) v g h = of_keys.before_key w v g h
upper_past (After w) v g h = of_keys.lt_le (key v) _ ∙ ap not (after_past (is_release w) w v refl g h)

pub versions_exact : (ss : List (Span VersionValue)) (v : VersionValue) → All IsSpan ss → IsVersion v
    → has (slice_cmp nat_cmp) (versions ss) (key v) ≡ accepts ss v true
versions_exact [] v h k = refl
versions_exact (s ∷ ss) v h k =
    let g : IsSpan s = All-head IsSpan s ss h in
    let one : holds (slice_cmp nat_cmp) (version_stretch s) (key v) ≡ (cuts.holds precedence s v && true) =
    (λ i. lower_past s.lower v g.lower k i && upper_past s.upper v g.upper k i) ∙ sym (and-true _) in
    λ i. one i || versions_exact ss v (All-tail IsSpan s ss h) k i
