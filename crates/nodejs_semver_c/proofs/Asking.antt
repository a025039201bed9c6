-- Questions about intervals where they stand: what each interval answers decides what the range does.
use Rattle.std.proofs.Common.{◌≡◌, ◌<◌, ◌∷◌, ◌∙◌, ◌==◌, ◌&&◌, ◌||◌, ◌+◌, ap, arith, false, get_or, inl, inr, length, map, refl, sym, take, true, true≢false, Bool, List, [], ℕ}
use Rattle.std.proofs.lemmas.List.Folds.{list_all_more}
use Rattle.std.specs.List.{list_all, list_any}
use Rattle.nodejs_semver.proofs.Algebra.Accepting.{meets_one_some}
use Rattle.nodejs_semver.proofs.Common.{and_parts, cases_Bool}
use Rattle.nodejs_semver.specs.Ranges.Algebra.{intersection}
use Rattle.semver_core.proofs.CutLaws.{between, is_some-interval}
use Rattle.semver_core.specs.Cuts.{Span, cut_cmp, greater_lower, is_interval, lesser_upper, lower_cut, meet, upper_cut}
use Rattle.semver_core.specs.Printing.RoundTrip.{is_readable}
use Rattle.semver_core.specs.Text.Identifiers.{is_listed}
use Rattle.semver_core.specs.Values.Gate.{is_range_bound}
use Rattle.semver_core.specs.declared.TheConstants.{MAX_SAFE_INTEGER}
use Rattle.semver_core.specs.Internal.OrderLaws.{precedence_total}
use Rattle.semver_core.specs.Values.Order.{precedence}
use Rattle.semver_core.specs.Values.Versions.{VersionValue}
use Rattle.std.specs.Ordering.{is_lt}
use Rattle.std.specs.Prelude.{◌⊎◌, is_some}
use Rattle.nodejs_semver_c.specs.Internal.Keeps.{is_sound, keeps, spells}
use Rattle.nodejs_semver_c.specs.Kept.{kept_value}
use Rattle.nodejs_semver_c.specs.declared.TheConstants.{BOUND_CLOSED, BOUND_NONE, BOUND_OPEN}
use Rattle.nodejs_semver_c.specs.declared.intervals.Bound.{Bound}
use Rattle.nodejs_semver_c.specs.KeptRanges.{is_spelled, kept_span, lower_of, upper_of}
use Rattle.nodejs_semver_c.specs.declared.intervals.Interval.{Interval}

-- a test of the spans is one of the intervals
pub any_kept : (p : Span VersionValue → Bool) (is : List Interval) → list_any (λ i. p (kept_span i)) is ≡ list_any p (map kept_span is)
any_kept p [] = refl
any_kept p (i ∷ is) = ap (λ b. p (kept_span i) || b) (any_kept p is)

pub all_kept : (p : Span VersionValue → Bool) (is : List Interval) → list_all (λ i. p (kept_span i)) is ≡ list_all p (map kept_span is)
all_kept p [] = refl
all_kept p (i ∷ is) = ap (λ b. p (kept_span i) && b) (all_kept p is)

-- what holds of all intervals so far holds of one more
pub all_more : {A : Type 0} (p : A → Bool) (xs : List A) (at : ℕ) (x : A) → at < length xs → x ≡ get_or xs at x → p x ≡ true
    → list_all p (take at xs) ≡ true → list_all p (take (at + 1) xs) ≡ true
all_more p xs at x lt same one all = list_all_more p xs at x lt ∙ rw (sym same, all, one) refl

pub keeps_spells : (i : Interval) → keeps i ≡ true → spells i ≡ true
keeps_spells i h = (and_parts (spells i) _ h).0

pub lower_spelled : (i : Interval) → spells i ≡ true → is_spelled i.lower ≡ true
lower_spelled i h = (and_parts (is_spelled i.lower) (is_spelled i.upper) h).0

pub upper_spelled : (i : Interval) → spells i ≡ true → is_spelled i.upper ≡ true
upper_spelled i h = (and_parts (is_spelled i.lower) (is_spelled i.upper) h).1

pub keeps_interval : (i : Interval) → keeps i ≡ true → is_interval precedence (kept_span i) ≡ true
keeps_interval i h = (and_parts (is_interval precedence (kept_span i)) _ (and_parts (spells i) _ h).1).0

-- a bound may be one of a range on either side
sides : (b : Bound) → is_range_bound (MAX_SAFE_INTEGER + 1) (lower_of b) ≡ is_range_bound (MAX_SAFE_INTEGER + 1) (upper_of b)
sides b = grind arith

pub sound_spelled : (b : Bound) → is_sound b ≡ true → is_spelled b ≡ true
sound_spelled b h = (and_parts (is_spelled b) _ h).0

-- an interval of two such bounds in order is kept, and no other
pub sound_kept : (i : Interval) → is_sound i.lower ≡ true → is_sound i.upper ≡ true → is_interval precedence (kept_span i) ≡ true → keeps i ≡ true
sound_kept i h k ordered =
    let lower = and_parts (is_spelled i.lower) _ h in
    let upper = and_parts (is_spelled i.upper) _ k in
    rw (lower.0, upper.0, lower.1, ordered, sym (sides i.upper) ∙ upper.1) refl

sound_sides : (i : Interval) → keeps i ≡ true → (is_sound i.lower ≡ true) × (is_sound i.upper ≡ true)
sound_sides i h =
    let both = and_parts (spells i) _ h in
    let spelled = and_parts (is_spelled i.lower) (is_spelled i.upper) both.0 in
    let span = and_parts (is_interval precedence (kept_span i)) _ both.1 in
    let bounds = and_parts (is_range_bound (MAX_SAFE_INTEGER + 1) (lower_of i.lower)) _ span.1 in
    (rw (spelled.0, bounds.0) refl, rw (spelled.1, sides i.upper ∙ bounds.1) refl)

pub unsound_lower : (i : Interval) → is_sound i.lower ≡ false → keeps i ≡ false
unsound_lower i h = elim (cases_Bool (keeps i)) [
  | inl kept ↦ absurd (true≢false (sym (sound_sides i kept).0 ∙ h))
  | inr other ↦ other
]

pub unsound_upper : (i : Interval) → is_sound i.upper ≡ false → keeps i ≡ false
unsound_upper i h = elim (cases_Bool (keeps i)) [
  | inl kept ↦ absurd (true≢false (sym (sound_sides i kept).1 ∙ h))
  | inr other ↦ other
]

pub unordered : (i : Interval) → is_interval precedence (kept_span i) ≡ false → keeps i ≡ false
unordered i h = grind (arith, h)

-- from a closed bound to an open one
module _ (i : Interval) (lower : i.lower.kind ≡ BOUND_CLOSED) (upper : i.upper.kind ≡ BOUND_OPEN) where
  pub usual_sound : (b : Bound) → (b.kind ≡ BOUND_CLOSED) ⊎ (b.kind ≡ BOUND_OPEN) → is_listed b.version.pre_release.now ≡ true
      → is_listed b.version.build.now ≡ true → is_readable (MAX_SAFE_INTEGER + 1) (kept_value b.version) ≡ true → is_sound b ≡ true
  usual_sound b (inl e) pre build h = rw (e, pre, build, h) refl
  usual_sound b (inr e) pre build h = rw (e, pre, build, h) refl

  pub usual_interval : is_interval precedence (kept_span i) ≡ is_lt (precedence (kept_value i.lower.version) (kept_value i.upper.version))
  usual_interval = rw (lower, upper) (grind arith)

-- the texts of a bound that has a version
pub spelled_pre : (b : Bound) → is_spelled b ≡ true → (b.kind == BOUND_NONE) ≡ false → is_listed b.version.pre_release.now ≡ true
spelled_pre b h some = grind (arith, h, some)

pub spelled_build : (b : Bound) → is_spelled b ≡ true → (b.kind == BOUND_NONE) ≡ false → is_listed b.version.build.now ≡ true
spelled_build b h some = grind (arith, h, some)

pub ruleset spelled_texts = (spelled_pre, spelled_build)

pub ruleset spelled_bounds = (keeps_spells, lower_spelled, upper_spelled, spelled_pre, spelled_build)

-- two intervals meet where each begins below the end of the other and below its own
pub kept_meet : (i j : Interval) → is_some (meet precedence (kept_span i) (kept_span j))
    ≡ (is_lt (cut_cmp precedence (lower_cut (lower_of j.lower)) (upper_cut (upper_of i.upper)))
    && (is_lt (cut_cmp precedence (lower_cut (lower_of i.lower)) (upper_cut (upper_of j.upper)))
    && (is_lt (cut_cmp precedence (lower_cut (lower_of i.lower)) (upper_cut (upper_of i.upper)))
    && is_lt (cut_cmp precedence (lower_cut (lower_of j.lower)) (upper_cut (upper_of j.upper))))))
kept_meet i j =
    let common : Span VersionValue = record {
      lower = greater_lower precedence (lower_of i.lower) (lower_of j.lower);
      upper = lesser_upper precedence (upper_of i.upper) (upper_of j.upper);
    } in
    is_some-interval precedence_total common
    ∙ between precedence_total (lower_of i.lower) (lower_of j.lower) (upper_of i.upper) (upper_of j.upper)
    ∙ turned (is_lt (cut_cmp precedence (lower_cut (lower_of i.lower)) (upper_cut (upper_of i.upper)))) _ _ _
  where
    turned : (a b c d : Bool) → ((a && b) && (c && d)) ≡ (c && (b && (a && d)))
    turned a b c d = grind arith

-- ranges have something in common where some pair meets
pub pairs_meet : (is js : List Interval) → list_any (λ i. list_any (λ t. is_some (meet precedence (kept_span i) t)) (map kept_span js)) is
    ≡ is_some (intersection (map kept_span is) (map kept_span js))
pairs_meet is js = any_kept (λ s. list_any (λ t. is_some (meet precedence s t)) (map kept_span js)) is
    ∙ meets_one_some precedence (map kept_span is) (map kept_span js)

pub ruleset sound_bounds = (sound_spelled, sound_kept, unsound_lower, unsound_upper, unordered, usual_sound, usual_interval)
