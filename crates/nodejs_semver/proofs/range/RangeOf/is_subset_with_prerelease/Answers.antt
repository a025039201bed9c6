use Rattle.nodejs_semver.proofs.{Common.{[], accepts, ap, inl, is_some, on_err, refl, sym, true, ◌∙◌}, Questions.Least.answered}
use Rattle.nodejs_semver.proofs.Questions.Unions.{by_difference, none_in}
use Rattle.nodejs_semver.proofs.range.RangeOf.is_subset_with_prerelease.Goals as goal

pub returns-in_ok-min_version_with_prerelease-in-Some-clause-subset : goal.returns-in_ok-min_version_with_prerelease-in-Some-clause-subset
returns-in_ok-min_version_with_prerelease-in-Some-clause-subset g c =
    by_difference _ _ _ (rw c.in-Some.is at c.in_ok-difference.ensures.all) c.is_none.result (rw (answered _ c.is_none.result c.is_none.ensures)
    (none_in (λ v. accepts c.in-Some.left v true) _ c.in_ok-min_version_with_prerelease-in-Some.ensures.least))

pub returns-in_err-min_version_with_prerelease-in-Some-clause-memory : goal.returns-in_err-min_version_with_prerelease-in-Some-clause-memory
returns-in_err-min_version_with_prerelease-in-Some-clause-memory g c = on_err _ (inl (ap is_some (sym c.in_ok-difference.ensures.list) ∙ ap is_some c.in-Some.is))

pub returns-in-None-clause-subset : goal.returns-in-None-clause-subset
returns-in-None-clause-subset g c =
    by_difference _ _ [] (rw c.in-None.is at c.in_ok-difference.ensures.all) true (λ _ v. refl, λ _. refl)
