use Rattle.std.proofs.Common.{◌++◌, ◌∙◌, ap, sym}
use Rattle.lock_check.proofs.Overriding.{at-end, no-end}
use Rattle.lock_check.proofs.overrides.name_before.Goals as goal

pub returns-in-Some-clause-none : goal.returns-in-Some-clause-none
returns-in-Some-clause-none c =
    let cut = c.in-Some.ensures.cases in
    at-end c.args.key.now c.args.behind.now c.in-Some.front.now c.strip_suffix-in-Some.result
    (cut.1.1 ∙ ap (λ front. front ++ c.args.behind.now) (sym cut.2)) c.strip_suffix-in-Some.ensures.cases

pub returns-in-None-clause-none : goal.returns-in-None-clause-none
returns-in-None-clause-none c = no-end c.args.key.now c.args.behind.now c.in-None.ensures.cases
