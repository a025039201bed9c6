-- For proofs. A printed version is the components of a partial, the text of an interval a part that means it, and a range that
-- is printed and parsed comes back.
use Rattle.nodejs_semver.proofs.Common.{After, AreComponents, Before, Bound, Comparator, Failure, IfOk, IfOk-weaker, IsPreRelease, IsRange, IsSign}
use Rattle.nodejs_semver.proofs.Common.{IsUtf8, List, Means, Partial, Result, Some, Span, Unbounded, VersionValue, [], above, and_from, and_parts, ap}
use Rattle.nodejs_semver.proofs.Common.{append-nil, arith, at_most, below, cases_Bool, common_steps, compare, decimal, denotes, equal, inl, inr}
use Rattle.nodejs_semver.proofs.Common.{is_interval, is_range_bound, is_range_span, list_all, map, meet, nat_tests, precedence, precedence_total}
use Rattle.nodejs_semver.proofs.Common.{range_text, refl, subst, sym, table, true, version_eq, ℕ, ◌&&◌, ◌++◌, ◌+◌, ◌<◌, ◌^◌, ◌||◌, ◌∷◌, ◌≡◌}
use Rattle.nodejs_semver.proofs.{Dividing.MeaningLaw.one_meaning, Everyday.{Texts.{AreTidy, more_tidy, one_tidy, tidy-denotes}, Words.Tidy}}
use Rattle.nodejs_semver.{proofs.Everyday.Words.{compared-tidy, plain-tidy, two-tidy}, specs.Internal.{SameLaws.bound_refl, Sets.span_eq}}
use Rattle.nodejs_semver.specs.{Internal.Shorthands.is_small, Printing.{RoundTrip.{bounds_back, is_printable}, Text.bounds_text}}
use Rattle.nodejs_semver.specs.{Ranges.{Equality.range_eq, Outside.is_bounded}, Text.{PartialText.{number, three}, WordText.above_sign}}
use Rattle.{nodejs_semver.specs.Text.WordText.{at_least_sign, at_most_sign, below_sign}, semver_core.proofs.Printing.Returns.build_back}
use Rattle.semver_core.{proofs.{Printing.Returns.{number_back, pre_back}, Reading.Bytes.quiet-before}, specs.Failures.RefusedOnlyIf}
use Rattle.semver_core.specs.{Internal.Readable.IsReadable, Printing.Text.{marked_list, version_text}, Text.Comparators.at_least}
use Rattle.std.specs.Cmp.{eq_by_cmp_equiv}

-- the partial that a version is
abbrev pub whole : VersionValue → Partial
whole v = record { major = Some v.major; minor = Some v.minor; patch = Some v.patch; pre_release = v.pre_release; build = v.build }

pub components_are : (limit : ℕ) (v : VersionValue) → limit < 2 ^ 64 → IsReadable limit v
    → AreComponents limit (version_text v) (whole v)
components_are limit v fits h =
    let pre = marked_list (45 ∷ []) v.pre_release in
    let build = marked_list (43 ∷ []) v.build in
    let pre_is : IsPreRelease pre build v.pre_release = rw (append-nil build) at (pre_back v.pre_release v.build h.pre_release) in
    three (decimal v.major) (decimal v.minor) (decimal v.patch) pre build (whole v)
    (number (decimal v.major) v.major (number_back limit v.major fits h.major))
    (number (decimal v.minor) v.minor (number_back limit v.minor fits h.minor))
    (number (decimal v.patch) v.patch (number_back limit v.patch fits h.patch))
    (quiet-before (decimal v.patch) (pre ++ build) (grind arith)) pre_is (build_back v.build h.build)

-- ---- the text of an interval is a part that means it

-- the version of a bound, if there is one, reads as itself
abbrev pub IsReadableBound : ℕ → Bound VersionValue → Type 0
IsReadableBound limit Unbounded = Unit {0}
IsReadableBound limit (Before v) = IsReadable limit v
IsReadableBound limit (After v) = IsReadable limit v

-- a version has its own place in the order
pub ties_self : (v : VersionValue) → version_eq v v ≡ true
ties_self v = (eq_by_cmp_equiv precedence_total).refl v

-- what a printed comparator makes of a version
abbrev bound : Comparator → VersionValue → Span VersionValue
bound at_least v = record { lower = Before v; upper = Unbounded }
bound above v = record { lower = After v; upper = Unbounded }
bound below v = record { lower = Unbounded; upper = Before v }
bound at_most v = record { lower = Unbounded; upper = After v }
bound equal v = record { lower = Before v; upper = After v }

one : (limit : ℕ) (c : Comparator) (sign : List ℕ) (v : VersionValue) → IsSign c sign
    → table limit (compare c (whole v)) ≡ Some (bound c v) → limit < 2 ^ 64 → IsReadable limit v
    → Tidy limit (sign ++ version_text v) (bound c v)
one limit c sign v is e small h =
    compared-tidy limit c sign (version_text v) (whole v) (bound c v) is (components_are limit v small h) e

two : (limit : ℕ) (c d : Comparator) (sign sign' : List ℕ) (v w : VersionValue) (s : Span VersionValue) → IsSign c sign
    → IsSign d sign' → table limit (compare c (whole v)) ≡ Some (bound c v) → table limit (compare d (whole w)) ≡ Some (bound d w)
    → limit < 2 ^ 64 → IsReadable limit v → IsReadable limit w → meet precedence (bound c v) (bound d w) ≡ Some s
    → Tidy limit ((sign ++ version_text v) ++ 32 ∷ (sign' ++ version_text w)) s
two limit c d sign sign' v w s is is' e f small h k m =
    two-tidy limit c d sign sign' (version_text v) (version_text w) (whole v) (whole w) (bound c v) (bound d w) s
    is (components_are limit v small h) is' (components_are limit w small k) e f m

pub bounds_tidy : (limit : ℕ) (lower upper : Bound VersionValue) → limit < 2 ^ 64
    → is_interval precedence (record { lower = lower; upper = upper }) ≡ true
    → (is_bounded lower || is_bounded upper) ≡ true → IsReadableBound limit lower → IsReadableBound limit upper
    → Tidy limit (bounds_text lower upper) (bounds_back lower upper)
unfolding table
bounds_tidy limit Unbounded Unbounded small p b h k = cc b
bounds_tidy limit Unbounded (Before w) small p b h k = one limit below (60 ∷ []) w below_sign refl small k
bounds_tidy limit Unbounded (After w) small p b h k = one limit at_most (60 ∷ 61 ∷ []) w at_most_sign refl small k
bounds_tidy limit (Before v) Unbounded small p b h k = one limit at_least (62 ∷ 61 ∷ []) v at_least_sign refl small h
bounds_tidy limit (Before v) (Before w) small p b h k =
    two limit at_least below (62 ∷ 61 ∷ []) (60 ∷ []) v w _ at_least_sign below_sign refl refl small h k (rw p refl)
bounds_tidy limit (Before v) (After w) small p b h k = elim (cases_Bool (version_eq v w)) [
  | inl same ↦ rw same (plain-tidy limit (version_text v) (whole v) _ (components_are limit v small h) refl)
  | inr other ↦ rw other
      (two limit at_least at_most (62 ∷ 61 ∷ []) (60 ∷ 61 ∷ []) v w _ at_least_sign at_most_sign refl refl small h k (rw p refl))
]
bounds_tidy limit (After v) Unbounded small p b h k = one limit above (62 ∷ []) v above_sign refl small h
bounds_tidy limit (After v) (Before w) small p b h k =
    two limit above below (62 ∷ []) (60 ∷ []) v w _ above_sign below_sign refl refl small h k (rw p refl)
bounds_tidy limit (After v) (After w) small p b h k =
    two limit above at_most (62 ∷ []) (60 ∷ 61 ∷ []) v w _ above_sign at_most_sign refl refl small h k (rw p refl)

-- ---- printed ranges come back

bounds_same : (lower upper : Bound VersionValue) → span_eq (bounds_back lower upper) (record { lower = lower; upper = upper }) ≡ true
bounds_same Unbounded upper = bound_refl upper
bounds_same (After v) upper = and_from _ _ (ties_self v) (bound_refl upper)
bounds_same (Before v) Unbounded = and_from _ _ (ties_self v) refl
bounds_same (Before v) (Before w) = and_from _ _ (ties_self v) (ties_self w)
bounds_same (Before v) (After w) = grind (arith, ties_self)

-- the interval that is read from a printed one
abbrev pub read_back : Span VersionValue → Span VersionValue
read_back s = bounds_back s.lower s.upper

pub same_back : (list : List (Span VersionValue)) → range_eq (map read_back list) list ≡ true
same_back [] = refl
same_back (s ∷ rest) = grind (arith, bounds_same, same_back rest)

-- a bound of a range, of small numbers
small_bound : (limit : ℕ) (b : Bound VersionValue) → is_range_bound (limit + 1) b ≡ true → is_small limit b ≡ true
    → IsReadableBound limit b
small_bound limit b h k = grind arith

span_tidy : (limit : ℕ) (s : Span VersionValue) → limit < 2 ^ 64 → is_range_span (limit + 1) s ≡ true
    → is_printable limit s ≡ true → Tidy limit (bounds_text s.lower s.upper) (read_back s)
span_tidy limit s fits range h =
    let both = and_parts (is_bounded s.lower || is_bounded s.upper) (is_small limit s.lower && is_small limit s.upper) h in
    let small = and_parts (is_small limit s.lower) (is_small limit s.upper) both.1 in
    let parts = and_parts (is_interval precedence s)
    (is_range_bound (limit + 1) s.lower && is_range_bound (limit + 1) s.upper) range in
    let bounds = and_parts (is_range_bound (limit + 1) s.lower) (is_range_bound (limit + 1) s.upper) parts.1 in
    bounds_tidy limit s.lower s.upper fits parts.0 both.0
    (small_bound limit s.lower bounds.0 small.0) (small_bound limit s.upper bounds.1 small.1)

-- a printed range is its intervals' texts between bars
printed_tidy : (limit : ℕ) (s : Span VersionValue) (rest : List (Span VersionValue)) → limit < 2 ^ 64
    → list_all (is_range_span (limit + 1)) (s ∷ rest) ≡ true → list_all (is_printable limit) (s ∷ rest) ≡ true
    → AreTidy limit (range_text (s ∷ rest)) (map read_back (s ∷ rest))
printed_tidy limit s [] small range h = grind (arith, append-nil, one_tidy, span_tidy, and_parts)
printed_tidy limit s (t ∷ rest) small range h =
    let each = and_parts (is_printable limit s) (list_all (is_printable limit) (t ∷ rest)) h in
    let spans = and_parts (is_range_span (limit + 1) s) (list_all (is_range_span (limit + 1)) (t ∷ rest)) range in
    more_tidy (bounds_text s.lower s.upper) [] [] (range_text (t ∷ rest)) (read_back s) (map read_back (t ∷ rest))
    (span_tidy limit s small spans.0 each.0) (inl refl) (inl refl) (printed_tidy limit t rest small spans.1 each.1)

pub reads_back : (limit : ℕ) (text : List ℕ) (list : List (Span VersionValue)) → limit < 2 ^ 64 → IsRange limit list
    → list_all (is_printable limit) list ≡ true → text ≡ range_text list → denotes limit text ≡ map read_back list
reads_back limit text [] small range h e = absurd (omega (arith, range.some))
reads_back limit text (s ∷ rest) small range h e =
    grind (arith, nat_tests, tidy-denotes, printed_tidy limit s rest small range.each h)

-- what is read from a printed interval prints as the same text
again : (lower upper : Bound VersionValue) → bounds_text (bounds_back lower upper).lower (bounds_back lower upper).upper ≡ bounds_text lower upper
again Unbounded upper = refl
again (After v) upper = refl
again (Before v) Unbounded = refl
again (Before v) (Before w) = refl
again (Before v) (After w) = grind (arith, ties_self)

-- and so does a range
pub prints_again : (list : List (Span VersionValue)) → range_text (map read_back list) ≡ range_text list
prints_again [] = refl
prints_again (i ∷ []) = ap (λ a. a ++ []) (again i.lower i.upper)
prints_again (i ∷ j ∷ rest) = grind (arith, again, prints_again (j ∷ rest))

-- ---- a range that is printed and parsed

-- what is read from the text of a printable range
pub record Reread (limit : ℕ) (text : List ℕ) (list : List (Span VersionValue)) : Type 0 where
  pub utf8 : IsUtf8 text
  pub small : limit < 2 ^ 64
  pub range : IsRange limit list
  pub printable : list_all (is_printable limit) list ≡ true
  pub printed : text ≡ range_text list

is_back : (limit : ℕ) (text : List ℕ) (again list : List (Span VersionValue)) → Reread limit text list → Means limit text again
    → again ≡ map read_back list
is_back limit text again list h m = grind (arith, nat_tests, common_steps, one_meaning, again, reads_back)

-- what holds of the range that comes back
pub reread : {E : Type 0} (limit : ℕ) (r : Result (List (Span VersionValue)) E) (text : List ℕ) (list : List (Span VersionValue))
    (P : List (Span VersionValue) → Type 0) → Reread limit text list → P (map read_back list) → IfOk r (Means limit text)
    → IfOk r P
reread limit r text list P h p m = IfOk-weaker r _ P (λ again n. subst P (sym (is_back limit text again list h n)) p) m

-- the text means some interval
not_refused : (limit : ℕ) (text : List ℕ) (list : List (Span VersionValue)) → Reread limit text list → Means limit text [] → ⊥
not_refused limit text [] h m = absurd (omega (arith, h.range.some))
not_refused limit text (s ∷ rest) h m = cc (is_back limit text [] (s ∷ rest) h m)

pub reread_read : {E : Type 0} (limit : ℕ) (r : Result (List (Span VersionValue)) (Failure E)) (text : List ℕ) (list : List (Span VersionValue)) → Reread limit text list
    → RefusedOnlyIf {A = List (Span VersionValue)} {E = E} r (Means limit text [])
    → RefusedOnlyIf {A = List (Span VersionValue)} {E = E} r ⊥
reread_read limit r text list h m = grind (arith, not_refused)
