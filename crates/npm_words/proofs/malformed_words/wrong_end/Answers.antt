use Rattle.npm_words.proofs.{Common.{arith, sym, ◌∙◌}, FlawPlaces.Ends.{both-right, form-fits, lower-wrong, no-form, upper-wrong}}
use Rattle.npm_words.proofs.malformed_words.wrong_end.Goals as goal

pub returns-in_err-first-clause-none : goal.returns-in_err-first-clause-none
returns-in_err-first-clause-none c = rw c.from_residual.ensures (no-form c.args.include c.args.text.now c.requires (sym c.in_err-first.ensures))

pub returns-then-not-is_lower_end-clause-some : goal.returns-then-not-is_lower_end-clause-some
returns-then-not-is_lower_end-clause-some c =
    lower-wrong c.args.include c.args.text.now c.requires _ (sym c.in_ok-first.ensures) (sym c.is_lower_end.ensures ∙ c.if-not-is_lower_end.true)

pub returns-then-not-is_lower_end-clause-fits : goal.returns-then-not-is_lower_end-clause-fits
returns-then-not-is_lower_end-clause-fits c =
    (omega arith, (form-fits c.args.include c.args.text.now c.requires _ (sym c.in_ok-first.ensures)).0)

pub overflow_sub-result : goal.overflow_sub-result
overflow_sub-result c = (form-fits c.args.include c.args.text.now c.requires _ (sym c.in_ok-first.ensures)).1

pub returns-then-not-is_upper_end-clause-some : goal.returns-then-not-is_upper_end-clause-some
returns-then-not-is_upper_end-clause-some c =
    let fits = (form-fits c.args.include c.args.text.now c.requires _ (sym c.in_ok-first.ensures)).1 in
    upper-wrong c.args.include c.args.text.now c.requires _ (sym c.in_ok-first.ensures) _ (sym c.is_lower_end.ensures ∙ c.if-not-is_lower_end.false)
    (sym c.is_upper_end.ensures ∙ c.if-not-is_upper_end.true) (omega arith)

pub returns-clause-none : goal.returns-clause-none
returns-clause-none c =
    both-right c.args.include c.args.text.now c.requires _ (sym c.in_ok-first.ensures) (sym c.is_lower_end.ensures ∙ c.if-not-is_lower_end.false)
    (sym c.is_upper_end.ensures ∙ c.if-not-is_upper_end.false)
