use Rattle.nodejs_semver.proofs.Common.{ap, inl, is_some, on_err, sym, ◌∙◌}
use Rattle.nodejs_semver_c.proofs.Beyond.{least_of_left, nothing_left}
use Rattle.nodejs_semver_c.proofs.kept_sets.least_left.Goals as goal

pub returns-in-Some-clause-least : goal.returns-in-Some-clause-least
returns-in-Some-clause-least c =
    least_of_left _ _ _ c.in_ok-left.ensures.all _ _ c.in-Some.is c.min_version_with_prerelease.ensures.least

pub returns-in-Some-clause-memory : goal.returns-in-Some-clause-memory
returns-in-Some-clause-memory c = on_err _ (inl (ap is_some (sym c.in_ok-left.ensures.list) ∙ ap is_some c.in-Some.is))

pub returns-in-None-clause-least : goal.returns-in-None-clause-least
returns-in-None-clause-least c = nothing_left _ _ _ c.in_ok-left.ensures.all c.in-None.is
