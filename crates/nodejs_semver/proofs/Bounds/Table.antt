-- For proofs. The bounds of what is read are such as a range may have.
use Rattle.nodejs_semver.proofs.{Bounds.{Bounded.word-fine, TableRows.{are_bounds, table-bounded}}, Common.{AllByRecursion, Bool, Bound, List, Run}}
use Rattle.nodejs_semver.proofs.Common.{Span, VersionValue, [], arith, common_steps, cond_both, denotes, filter_map, fits, flat_map, if◌then◌else◌}
use Rattle.nodejs_semver.proofs.Common.{interval_of, is_range_bound, is_range_span, list_all, list_all-append, map, nat_tests, part_denotes}
use Rattle.nodejs_semver.proofs.Common.{precedence, refl, run_items, suc, table, true, words_within, zero, ℕ, ◌+◌, ◌∷◌, ◌≡◌}
use Rattle.nodejs_semver.{proofs.Dividing.RunsDivide.{all-cons, part_divides}, specs.Text.Runs.{greatest_lower, least_upper}}

words-bounded : (limit n : ℕ) (text : List ℕ) → list_all (are_bounds (limit + 1)) (filter_map (table limit) (words_within limit n text)) ≡ true
unfolding words_within
words-bounded limit zero text = refl
words-bounded limit (suc n) [] = refl
words-bounded limit (suc n) (b ∷ text) = grind (arith, nat_tests, words-bounded limit n, table-bounded, word-fine, all-cons)

-- ---- the intervals of runs

pick : (limit : ℕ) (t : Bool) (b c : Bound VersionValue) → is_range_bound limit b ≡ true → is_range_bound limit c ≡ true → is_range_bound limit (if t then b else c) ≡ true
pick limit t b c f g = cond_both t b c (λ e. is_range_bound limit e ≡ true) (λ _. f) (λ _. g)

ends-bounded : (limit : ℕ) (s : Span VersionValue) (ts : List (Span VersionValue)) → list_all (are_bounds limit) (s ∷ ts) ≡ true
    → (is_range_bound limit (greatest_lower precedence s ts) ≡ true) × (is_range_bound limit (least_upper precedence s ts) ≡ true)
ends-bounded limit s [] h = grind (arith, nat_tests, common_steps)
ends-bounded limit s (t ∷ rest) h = let more = ends-bounded limit t rest in (grind (arith, pick, more), grind (arith, pick, more))

run-bounded : (limit : ℕ) (r : Run VersionValue) → list_all (are_bounds limit) (run_items r) ≡ true → fits precedence r ≡ true → is_range_span limit (interval_of precedence r) ≡ true
run-bounded limit r h one = grind (arith, nat_tests, common_steps, ends-bounded)

runs-bounded : (limit : ℕ) (runs : List (Run VersionValue)) → list_all (are_bounds limit) (flat_map run_items runs) ≡ true → AllByRecursion (λ r. fits precedence r ≡ true) runs
    → list_all (is_range_span limit) (map (interval_of precedence) runs) ≡ true
runs-bounded limit [] h each = refl
runs-bounded limit (r ∷ rest) h each = grind (arith, list_all-append, run-bounded, runs-bounded limit rest)

pub all-bounded : (limit : ℕ) (ps : List (List ℕ)) → list_all (is_range_span (limit + 1)) (flat_map (part_denotes limit) ps) ≡ true
all-bounded limit [] = refl
all-bounded limit (p ∷ ps) = grind (arith, list_all-append, part_divides, runs-bounded, words-bounded, all-bounded limit ps)

pub denotes-bounded : (limit : ℕ) (text : List ℕ) → list_all (is_range_span (limit + 1)) (denotes limit text) ≡ true
denotes-bounded limit text = grind (arith, all-bounded)
