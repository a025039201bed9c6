use Rattle.std.proofs.Common.{sym, ◌∙◌}
use Rattle.npm_semver.proofs.Records.{end_dropped, end_kept}
use Rattle.npm_semver.proofs.question.nul_records_of.Goals as goal

pub returns-then-not-has_empty_end : goal.returns-then-not-has_empty_end
returns-then-not-has_empty_end c =
    rw (← c.in_ok-records.ensures)
    (end_kept _ (rw c.deref.ensures.value at (sym c.has_empty_end.ensures ∙ c.if-not-has_empty_end.true)))

pub returns : goal.returns
returns c = rw (← c.in_ok-records.ensures, c.pop.ensures.rest)
    (end_dropped c.in_ok-records.records.items _ (rw c.deref.ensures.value at c.deref.ensures.len) (rw c.deref.ensures.value at (sym c.has_empty_end.ensures ∙ c.if-not-has_empty_end.false)))
