use Rattle.nodejs_semver.proofs.Common.{on_err_weaker, span_of, spans_of, sym}
use Rattle.nodejs_semver.proofs.Questions.Spans.{first_names}
use Rattle.nodejs_semver.proofs.range.neighbours.with_least_build.Goals as goal

pub returns-in-Some-clause-memory : goal.returns-in-Some-clause-memory
returns-in-Some-clause-memory g c =
    let value = g.V.Versioned.value in
    on_err_weaker c.with_build_by.result
    (λ h. first_names _ (spans_of value c.args.intervals.now) (span_of value c.in-Some.interval.now) (sym c.in-Some.ensures.value)
    (rw c.lower.ensures.value at h)) c.with_build_by.ensures.memory
