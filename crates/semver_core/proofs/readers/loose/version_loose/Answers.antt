use Rattle.semver_core.proofs.{Common.{arith, qualified, ◌≡◌}}
use Rattle.std.proofs.lemmas.{Grind.common_steps, Result.MatchResult-from_err}
use Rattle.semver_core.proofs.readers.loose.version_loose.Goals as goal

pub returns-clause-some : goal.returns-clause-some
returns-clause-some c =
    let m = c.in-Some in
    let is : c.from_parts.result ≡ qualified c.args.text.now (m.major, m.minor, m.patch, m.end) = grind (arith, common_steps) in
    rw is m.ensures.some

pub returns-in_err-qualifier-clause-memory : goal.returns-in_err-qualifier-clause-memory
returns-in_err-qualifier-clause-memory c =
    let m = c.in-Some in
    MatchResult-from_err c.from_residual.result _ _ c.from_residual.ensures.0 (λ _. (qualified c.args.text.now (m.major, m.minor, m.patch, m.end), m.ensures.some, c.in_err-qualifier.ensures.memory))
