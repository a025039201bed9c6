use Rattle.semver_core.proofs.Common.{Ok, Some, ap, rules, subst, sym, ◌∙◌, ◌>>=◌, Returns}
use Rattle.semver_core.proofs.Increments.LastNumber.{advance_at}
use Rattle.semver_core.specs.Internal.NextIds.{numbered}
use Rattle.semver_core.proofs.increment.pre_release.advance.Goals as goal

pub returns-in_err-one_more-clause-value : goal.returns-in_err-one_more-clause-value
returns-in_err-one_more-clause-value c =
    let found = c.in-Some in
    subst (λ a. Returns a c.from_residual.result)
    (sym (advance_at c.args.ids.now c.args.id.now c.args.base found.at found.last (rw found.is at c.last_number.ensures))) (search rules)

pub returns-in-Some-clause-value : goal.returns-in-Some-clause-value
returns-in-Some-clause-value c =
    let found = c.in-Some in
    advance_at c.args.ids.now c.args.id.now c.args.base found.at found.last (rw found.is at c.last_number.ensures)
    ∙ ap (λ r. r >>= λ m. Ok (numbered c.args.ids.now (Some m) found.at)) c.in_ok-one_more.ensures.value
    ∙ ap Ok (sym (rw c.copy-in-Some.ensures at c.of-in-Some.ensures))
