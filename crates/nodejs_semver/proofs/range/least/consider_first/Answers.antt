use Rattle.nodejs_semver.proofs.Common.{ap, bound_of, inl, inr, on_err, on_err_weaker, sym, ◌∙◌}
use Rattle.nodejs_semver.proofs.range.least.consider_first.Goals as goal

pub returns-in-Unbounded : goal.returns-in-Unbounded
returns-in-Unbounded g c = record {
  best = rw c.in-Unbounded.is (rw c.lowest.ensures at c.consider.ensures.best);
  memory = on_err_weaker c.consider.result (λ found. inl found) c.consider.ensures.memory;
}

pub returns-in-Before : goal.returns-in-Before
returns-in-Before g c = record {
  best = rw c.in-Before.is c.consider-in-Before.ensures.best;
  memory = on_err_weaker c.consider-in-Before.result (λ found. inl found) c.consider-in-Before.ensures.memory;
}

pub patch_after-requires : goal.patch_after-requires
patch_after-requires g c = rw c.in-After.is at c.requires.raisable

pub returns-then-is_release : goal.returns-then-is_release
returns-then-is_release g c = record {
  best = rw (c.in-After.is, sym c.is_release.ensures ∙ c.if-is_release.true)
      (rw (c.first_pre.ensures, c.patch_after.ensures) at c.consider-then-is_release.ensures.best);
  memory = on_err_weaker c.consider-then-is_release.result (λ found. inl found) c.consider-then-is_release.ensures.memory;
}

pub returns-in_ok-pre_after-in-After : goal.returns-in_ok-pre_after-in-After
returns-in_ok-pre_after-in-After g c =
    let pre = sym c.is_release.ensures ∙ c.if-is_release.false in record {
      best = rw (c.in-After.is, pre) (rw c.in_ok-pre_after-in-After.ensures at c.consider-in-After-2.ensures.best);
      memory = on_err _ (inr (g.C.Versioned.value c.in-After.version, ap (bound_of g.C.Versioned.value) c.in-After.is, pre));
    }

pub returns-in_err-pre_after-in-After-clause-memory : goal.returns-in_err-pre_after-in-After-clause-memory
returns-in_err-pre_after-in-After-clause-memory g c =
    let pre = sym c.is_release.ensures ∙ c.if-is_release.false in
    on_err _ (inr (g.C.Versioned.value c.in-After.version, ap (bound_of g.C.Versioned.value) c.in-After.is, pre))
