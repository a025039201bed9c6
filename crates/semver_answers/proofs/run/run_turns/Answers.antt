use Rattle.std.proofs.Common.{◌++◌, [], take, arith, refl}
use Rattle.std.proofs.KnownBytes.{Keeps-refl}
use Rattle.std.proofs.lemmas.Result.{err_from_is_err_and}
use Rattle.semver_answers.specs.Answers.{Answers}
use Rattle.semver_answers.specs.declared.run.RunFault.TheVariants.{Read}
use Rattle.semver_answers.proofs.Steps.{Answers-append, finished_ran, stopped_ran, turned_on}
use Rattle.semver_answers.proofs.run.run_turns.Goals as goal

pub turn-requires : goal.turn-requires
turn-requires g c =
    let (full, (bytes, so_far)) = c.reads.invariant in
    (so_far.told.has_lines refl).last

pub finish-requires : goal.finish-requires
finish-requires g c =
    let (full, (bytes, so_far)) = c.reads.invariant in
    let more = take c.in_ok-n.n c.turn.new.buffer in
    ((turned_on Answers Answers-append _ _ _ _ _ _ [] c.reads.lines.pending.items _ bytes more so_far c.in_ok-n.ensures.ok).told.has_lines refl).last

pub returns-in_err-n : goal.returns-in_err-n
returns-in_err-n g c =
    let (full, (bytes, so_far)) = c.reads.invariant in
    let p = err_from_is_err_and c.from_residual.result c.from_residual.ensures.1 in
    rw (p.1, p.2) (stopped_ran _ _ _ _ _ _ c.reads.lines.pending.items bytes so_far c.in_err-n.field-0.0 c.in_err-n.ensures.fault)

pub returns-then-n-eq0 : goal.returns-then-n-eq0
returns-then-n-eq0 g c =
    let (full, (bytes, so_far)) = c.reads.invariant in
    let more = take c.in_ok-n.n c.turn.new.buffer in
    finished_ran _ _ _ _ _ c.turn.new.lines.pending.items (bytes ++ more)
    (turned_on Answers Answers-append _ _ _ _ _ _ [] c.reads.lines.pending.items _ bytes more so_far c.in_ok-n.ensures.ok)
    (c.in_ok-n.ensures.end c.if-n-eq0.true full) c.finish.result c.finish.ensures

pub reads-preserved : goal.reads-preserved
reads-preserved g c =
    let (full, (bs, so_far)) = c.reads.invariant in
    let more = take c.in_ok-n.n c.turn.new.buffer in
    let t = turned_on Answers Answers-append _ _ _ _ _ _ [] c.reads.lines.pending.items _ bs more so_far c.in_ok-n.ensures.ok in
    (omega (arith, c.turn.auto.buffer, full), (bs ++ more, t))

pub returns : goal.returns
returns g c =
    let (full, (bytes, so_far)) = c.reads.invariant in
    stopped_ran _ _ _ _ _ _ c.reads.lines.pending.items bytes so_far Read (Keeps-refl _, Keeps-refl _)
