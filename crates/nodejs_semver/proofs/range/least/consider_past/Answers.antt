use Rattle.nodejs_semver.proofs.Common.{ap, append-nil, bound_of, inl, inr, on_err_weaker}
use Rattle.nodejs_semver.proofs.range.least.consider_past.Goals as goal

pub returns-in-Before : goal.returns-in-Before
returns-in-Before g c = record {
  best = rw (c.in-Before.is, append-nil) c.consider_from.ensures.best;
  memory = on_err_weaker c.consider_from.result (λ found. inl found) c.consider_from.ensures.memory;
}

pub consider_after-requires-clause-raisable : goal.consider_after-requires-clause-raisable
consider_after-requires-clause-raisable g c = rw c.in-After.is at c.requires.raisable

pub returns-in-After : goal.returns-in-After
returns-in-After g c = record {
  best = rw (c.in-After.is, append-nil) c.consider_after.ensures.best;
  memory = on_err_weaker c.consider_after.result (λ m. elim m [
    | inl found ↦ inl found
    | inr pre ↦ inr (g.C.Versioned.value c.in-After.version, ap (bound_of g.C.Versioned.value) c.in-After.is, pre)
  ]) c.consider_after.ensures.memory;
}
