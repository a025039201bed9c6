-- A version that a range does not hold lies outside it exactly where each cut says so.
use Rattle.nodejs_semver.proofs.{Algebra.Clauses.all_intervals, Common.{Bool, Bound, Higher, IsRange, List, Lower, Span, VersionValue, [], ap, arith}}
use Rattle.nodejs_semver.proofs.Common.{false, holds, is_interval, is_past, is_past-down, lies_above, lies_below, list_all, list_any, lower_cut, not}
use Rattle.nodejs_semver.proofs.Common.{one_way, precedence, precedence_total, refl, true, upper_cut, ℕ, ◌&&◌, ◌+◌, ◌||◌, ◌∙◌, ◌∷◌, ◌≡◌}
use Rattle.nodejs_semver.specs.{Ranges.Outside.{is_bounded, is_outside}, declared.range.outside.OutsideDirection.OutsideDirection}

-- what lies past the upper cut of an interval lies past its lower cut
both_past : (s : Span VersionValue) (v : VersionValue) → is_interval precedence s ≡ true
    → is_past precedence (upper_cut s.upper) v ≡ true → is_past precedence (lower_cut s.lower) v ≡ true
both_past s v h p = grind (arith, is_past-down, precedence_total, one_way)

-- the ends of the line
unbounded_below : (b : Bound VersionValue) (v : VersionValue) → is_bounded b ≡ false → is_past precedence (lower_cut b) v ≡ true
unbounded_below b v h = grind arith

unbounded_above : (b : Bound VersionValue) (v : VersionValue) → is_bounded b ≡ false → is_past precedence (upper_cut b) v ≡ false
unbounded_above b v h = grind arith

-- one span that does not hold the version: l and u say whether it lies past the lower and the upper cut, a and b whether there
-- is a bound
higher_one : (l u b : Bool) → (u ≡ true → l ≡ true) → (b ≡ false → u ≡ false) → (not ((l && not u) && true) && (b && l)) ≡ u
higher_one l u b f g = grind arith

lower_one : (l u a b : Bool) → (u ≡ true → l ≡ true) → (a ≡ false → l ≡ true) → (b ≡ false → u ≡ false)
    → (not ((l && not u) && true) && ((not a && not b) || (a && not u))) ≡ not l
lower_one l u a b f g k = grind arith

-- no span holds the version and each passes one test, where each passes another
along : (held test other : Span VersionValue → Bool) (ok : Span VersionValue → Bool)
    → ((s : Span VersionValue) → ok s ≡ true → (not (held s) && test s) ≡ other s)
    → (ss : List (Span VersionValue)) → list_all ok ss ≡ true → (not (list_any held ss) && list_all test ss) ≡ list_all other ss
along held test other ok each [] h = refl
along held test other ok each (s ∷ ss) h = grind (arith, each s, along held test other ok each ss)

pub higher_by_cuts : (d : OutsideDirection) (limit : ℕ) (ss : List (Span VersionValue)) (v : VersionValue) → IsRange limit ss
    → d ≡ Higher → is_outside d true ss v ≡ list_all (λ s. is_past precedence (upper_cut s.upper) v) ss
higher_by_cuts d limit ss v h e = ap (λ d. is_outside d true ss v) e
    ∙ along (λ s. holds precedence s v && true) (λ s. lies_below s v) (λ s. is_past precedence (upper_cut s.upper) v)
    (is_interval precedence) (λ s i. higher_one (is_past precedence (lower_cut s.lower) v)
    (is_past precedence (upper_cut s.upper) v) (is_bounded s.upper) (both_past s v i) (unbounded_above s.upper v)) ss
    (all_intervals (limit + 1) ss h.each)

pub lower_by_cuts : (d : OutsideDirection) (limit : ℕ) (ss : List (Span VersionValue)) (v : VersionValue) → IsRange limit ss
    → d ≡ Lower → is_outside d true ss v ≡ list_all (λ s. not (is_past precedence (lower_cut s.lower) v)) ss
lower_by_cuts d limit ss v h e = ap (λ d. is_outside d true ss v) e
    ∙ along (λ s. holds precedence s v && true) (λ s. lies_above s v) (λ s. not (is_past precedence (lower_cut s.lower) v))
    (is_interval precedence) (λ s i. lower_one (is_past precedence (lower_cut s.lower) v)
    (is_past precedence (upper_cut s.upper) v) (is_bounded s.lower) (is_bounded s.upper) (both_past s v i)
    (unbounded_below s.lower v) (unbounded_above s.upper v)) ss (all_intervals (limit + 1) ss h.each)
