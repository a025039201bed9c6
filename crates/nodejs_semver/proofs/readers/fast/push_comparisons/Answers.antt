use Rattle.nodejs_semver.proofs.Common.{nat_tests, common_steps, arith}
use Rattle.nodejs_semver.proofs.Common.{Front, IfOk, List, MAX_SAFE_INTEGER, Span, VersionValue, ap, begins_second, comparison_front}
use Rattle.nodejs_semver.proofs.Common.{comparisons_front, passed, refl, rules, subst, sym, take_rest, true, word_read, ℕ, ◌∙◌, ◌≡◌}
use Rattle.nodejs_semver.{proofs.Everyday.Parts.{first-read, none-second, second-read}}
use Rattle.{nodejs_semver.specs.Internal.CommonViews.{bounds_front_view, passed_view}, semver_pieces.specs.Internal.Views.bounds_view}
use Rattle.nodejs_semver.proofs.readers.fast.push_comparisons.Goals as goal

pub returns-in_default-clause-added : goal.returns-in_default-clause-added
unfolding comparisons_front
returns-in_default-clause-added g c = rw (sym c.comparison.ensures ∙ ap bounds_front_view c.in_default.is) refl

pub returns-then-not-matches-clause-added : goal.returns-then-not-matches-clause-added
returns-then-not-matches-clause-added g c =
    grind (arith, first-read)

pub returns-in-None-clause-added : goal.returns-in-None-clause-added
returns-in-None-clause-added g c =
    grind (arith, nat_tests, common_steps, none-second, take_rest)

pub returns-in-Some-comparison-clause-added : goal.returns-in-Some-comparison-clause-added
returns-in-Some-comparison-clause-added g c =
    let rest = c.in-Some.rest.now in
    let second : begins_second rest ≡ true = search rules in
    subst (λ (o : Front (Span VersionValue)). IfOk c.push_both.result (λ r. passed_view r (g.S.Found.items c.push_both.new.found) ≡ passed (g.S.Found.items c.args.found.now) o))
    (sym (second-read MAX_SAFE_INTEGER c.args.text.now (bounds_view c.in-Some.first) (bounds_view c.in-Some-comparison.second) rest c.in-Some-comparison.rest.now
    (sym (ap bounds_front_view c.in-Some.is) ∙ c.comparison.ensures) second (sym (ap bounds_front_view c.in-Some-comparison.is)
    ∙ (c.comparison-2.ensures ∙ ap (λ (t : List ℕ). word_read MAX_SAFE_INTEGER (comparison_front MAX_SAFE_INTEGER t)) (take_rest rest 1)))))
    c.push_both.ensures.added
