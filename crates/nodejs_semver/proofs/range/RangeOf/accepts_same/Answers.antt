use Rattle.nodejs_semver.proofs.{Common.{false, inl, inr, on_err, on_err_weaker}, Questions.Unions.{not_both, of_both}}
use Rattle.nodejs_semver.proofs.range.RangeOf.accepts_same.Goals as goal

pub returns-in_err-is_subset-clause-memory : goal.returns-in_err-is_subset-clause-memory
returns-in_err-is_subset-clause-memory g c = on_err _ (inl c.in_err-is_subset.ensures.memory)

pub returns-clause-same : goal.returns-clause-same
returns-clause-same g c =
    of_both false c.args.self.now c.args.other.now c.is_subset-2.result
    (c.in_ok-is_subset.ensures.subset.0 c.if-not-branch.false) c.is_subset-2.ensures.subset

pub returns-clause-memory : goal.returns-clause-memory
returns-clause-memory g c = on_err_weaker c.is_subset-2.result (λ m. inr m) c.is_subset-2.ensures.memory

pub returns-then-not-branch-clause-same : goal.returns-then-not-branch-clause-same
returns-then-not-branch-clause-same g c = not_both false _ _ _ c.in_ok-is_subset.ensures.subset c.if-not-branch.true
