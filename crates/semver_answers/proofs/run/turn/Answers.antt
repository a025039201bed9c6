use Rattle.std.proofs.Common.{take}
use Rattle.std.proofs.lemmas.Result.{err_from_is_err_and}
use Rattle.semver_answers.proofs.Steps.{turn_torn}
use Rattle.semver_answers.proofs.run.turn.Goals as goal

pub returns-in_err-write_out-clause-fault : goal.returns-in_err-write_out-clause-fault
returns-in_err-write_out-clause-fault g c =
    let p = err_from_is_err_and c.from_residual.result c.from_residual.ensures.1 in
    rw (p.1, p.2, c.in_err-write_out.ensures.fault) (turn_torn _ _ _ _ c.args.lines.now.pending.items
    (take c.in-Ok.n c.read.new.buf) _ _ _ c.take-taken.result c.in-Ok.ensures.bytes.0 c.take-taken.ensures
    c.as_slice.ensures c.in_err-write_out.ensures.err)
