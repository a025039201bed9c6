use Rattle.nodejs_semver.proofs.{Common.{inl, inr, on_err_weaker, true}, Questions.Unions.{not_both, of_both}}
use Rattle.nodejs_semver.proofs.range.RangeOf.accepts_same_with_prerelease.Goals as goal

pub returns-clause-same : goal.returns-clause-same
returns-clause-same g c =
    of_both true c.args.self.now c.args.other.now c.is_subset_with_prerelease-2.result
    (c.in_ok-is_subset_with_prerelease.ensures.subset.0 c.if-not-branch.false)
    c.is_subset_with_prerelease-2.ensures.subset

pub returns-then-not-branch-clause-same : goal.returns-then-not-branch-clause-same
returns-then-not-branch-clause-same g c = not_both true _ _ _ c.in_ok-is_subset_with_prerelease.ensures.subset c.if-not-branch.true

pub returns-clause-memory : goal.returns-clause-memory
returns-clause-memory g c = on_err_weaker c.is_subset_with_prerelease-2.result (λ m. elim m [
  | inl left ↦ inr (inl left)
  | inr several ↦ inr (inr (inl several))
]) c.is_subset_with_prerelease-2.ensures.memory
