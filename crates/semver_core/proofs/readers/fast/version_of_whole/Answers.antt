use Rattle.semver_core.proofs.Common.{sym}
use Rattle.{std.proofs.lemmas.Result.MatchResult-from_err, semver_core.proofs.Text.Fronts.{lists_left}}
use Rattle.semver_core.proofs.readers.fast.version_of_whole.Goals as goal

pub returns-in_err-qualifier-clause-memory : goal.returns-in_err-qualifier-clause-memory
returns-in_err-qualifier-clause-memory c =
    MatchResult-from_err c.from_residual.result _ _ c.from_residual.ensures.0 (λ _. c.in_err-qualifier.ensures.memory)

pub returns-then-end-text-clause-found : goal.returns-then-end-text-clause-found
returns-then-end-text-clause-found c =
    sym (lists_left c.args.text.now c.args.major c.args.minor c.args.patch c.args.at _ _ _ c.in_ok-qualifier.ensures.found c.if-end-text.true)
