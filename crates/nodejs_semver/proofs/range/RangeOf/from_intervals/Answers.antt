use Rattle.nodejs_semver.proofs.{Common.{IsRange, List, Span, VersionValue, YieldsList-from_slice, arith, false, is_range_span, length, list_all, list_all-map}}
use Rattle.nodejs_semver.proofs.{Common.{MAX_SAFE_INTEGER, map, refl, rules, span_of, sym, tests, true, ℕ, ◌+◌, ◌==◌, ◌∙◌, ◌≡◌}, Values.{map-none, map-some}}
use Rattle.std.proofs.lemmas.Iterator.Search.{all_from_yields_List}
use Rattle.nodejs_semver.proofs.range.RangeOf.from_intervals.Goals as goal
use Rattle.nodejs_semver.proofs.range.RangeOf.from_intervals.Goals.{then-is_empty-via-then-is_empty, then-is_empty-via-else-is_empty+then-not-all}

good : {A : Type 0} (limit n : ℕ) (f : A → Span VersionValue) (xs : List A) → length xs ≡ n → false ≡ (n == 0)
    → true ≡ list_all (λ x. is_range_span (limit + 1) (f x)) xs → IsRange limit (map f xs)
good limit n f xs l e h = record { some = map-some f xs (rw l e); each = list_all-map _ f xs ∙ sym h }

none : {A : Type 0} (limit n : ℕ) (f : A → Span VersionValue) (xs : List A) → length xs ≡ n → true ≡ (n == 0) → IsRange limit (map f xs)
    → false ≡ true
none limit n f xs l e r = absurd (omega (arith, rw (map-none f xs (rw l e)) at r.some))

bad : {A : Type 0} (limit : ℕ) (f : A → Span VersionValue) (xs : List A) → false ≡ list_all (λ x. is_range_span (limit + 1) (f x)) xs
    → IsRange limit (map f xs) → false ≡ true
bad limit f xs h r = h ∙ (sym (list_all-map _ f xs) ∙ r.each)

pub returns-then-is_empty-clause-exact : goal.returns-then-is_empty-clause-exact
returns-then-is_empty-clause-exact g c = (
  λ e. cc e,
  λ r. elim c.then-is_empty.branch [
    | then-is_empty-via-then-is_empty w ↦ none _ _ _ c.args.intervals.items (omega (arith, c.args.intervals.ok)) w.if-is_empty.ensures r
    | then-is_empty-via-else-is_empty+then-not-all w ↦
        let all = all_from_yields_List (λ s. is_range_span (MAX_SAFE_INTEGER + 1) (span_of g.V.Versioned.value s)) _ _ _ w.all.ensures.ran
        (YieldsList-from_slice w.deref.result.now w.iter.ensures.rest) (λ x b q k. search (rules, tests)) in
        bad _ _ c.args.intervals.items (sym w.if-not-all.true ∙ rw w.deref.ensures.value at all) r
  ],
)

whole : (g : _) (c : goal.After-from_vec-intervals g) → IsRange MAX_SAFE_INTEGER (map (span_of g.V.Versioned.value) c.args.intervals.items)
whole g c =
    let all = all_from_yields_List (λ s. is_range_span (MAX_SAFE_INTEGER + 1) (span_of g.V.Versioned.value s)) _ _ _ c.all.ensures.ran
    (YieldsList-from_slice c.deref.result.now c.iter.ensures.rest) (λ x b q k. search (rules, tests)) in
    good _ _ _ c.args.intervals.items (omega (arith, c.args.intervals.ok)) c.if-is_empty.ensures (sym c.if-not-all.false ∙ rw c.deref.ensures.value at all)

pub invariant_of-result : goal.invariant_of-result
invariant_of-result g c = rw c.from_vec-intervals.ensures.items (whole g c)

pub returns-clause-exact : goal.returns-clause-exact
returns-clause-exact g c = (λ e. whole g c, λ r. refl)
