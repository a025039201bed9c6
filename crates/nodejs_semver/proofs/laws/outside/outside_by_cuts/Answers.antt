use Rattle.nodejs_semver.proofs.Common.{MAX_SAFE_INTEGER, Ok, ap, ◌∙◌}
use Rattle.nodejs_semver.proofs.Questions.Outside.{higher_by_cuts, lower_by_cuts}
use Rattle.nodejs_semver.proofs.laws.outside.outside_by_cuts.Goals as goal

pub returns : goal.returns
returns c = record {
  higher = λ e. c.outside.ensures ∙ ap Ok (higher_by_cuts _ MAX_SAFE_INTEGER _ _ c.intervals-intervals.ensures.valid e);
  lower = λ e. c.outside.ensures ∙ ap Ok (lower_by_cuts _ MAX_SAFE_INTEGER _ _ c.intervals-intervals.ensures.valid e);
}
