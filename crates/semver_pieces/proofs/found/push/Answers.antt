use Rattle.std.proofs.Common.{arith, rules}
use Rattle.std.proofs.lemmas.Result.{MatchResult-from_err}
use Rattle.semver_pieces.proofs.found.push.Goals as goal

pub push_reserved-requires : goal.push_reserved-requires
push_reserved-requires g c = (search rules, grind arith)

pub returns-in_err-reserve-clause-memory : goal.returns-in_err-reserve-clause-memory
returns-in_err-reserve-clause-memory g c = MatchResult-from_err c.from_residual.result _ _ c.from_residual.ensures.0 (λ _. omega arith)
