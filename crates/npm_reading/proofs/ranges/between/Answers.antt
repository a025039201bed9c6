use Rattle.nodejs_semver.proofs.Common.{sym, ◌∙◌}
use Rattle.npm_reading.proofs.Grammar.RangeReads.{lower-none, upper-found}
use Rattle.npm_words.proofs.Common.{end_view, lower_of, upper_of}
use Rattle.npm_reading.proofs.ranges.between.Goals as goal

pub returns-in_err-from : goal.returns-in_err-from
returns-in_err-from c =
    rw c.from_residual.ensures (lower-none c.args.loose c.args.include (end_view c.args.lower.now) (end_view c.args.upper.now)
    (sym c.is_right.ensures ∙ c.if-not-is_right.false) (sym c.is_right-2.ensures ∙ c.if-not-is_right-2.false)
    (c.in_err-from.ensures.narrowed c.args.include (lower_of c.args.include (end_view c.args.lower.now)) c.lower_bounds.ensures))

pub returns : goal.returns
returns c =
    upper-found c.args.loose c.args.include (end_view c.args.lower.now) (end_view c.args.upper.now) (sym c.is_right.ensures ∙ c.if-not-is_right.false)
    (sym c.is_right-2.ensures ∙ c.if-not-is_right-2.false) c.all.result c.in_ok-from.from c.meet_read-2.result (c.all.ensures.narrowed c.args.include)
    (c.in_ok-from.ensures.narrowed c.args.include (lower_of c.args.include (end_view c.args.lower.now)) c.lower_bounds.ensures) (c.meet_read-2.ensures.narrowed c.args.include (upper_of c.args.include (end_view c.args.upper.now)) c.upper_bounds.ensures)
    (rw (c.in_ok-from.ensures.lost, c.all.ensures.lost) at c.meet_read-2.ensures.lost)
