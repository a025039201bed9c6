use Rattle.std.proofs.Common.{◌<◌, [], List, ℕ, length}
use Rattle.semver_answers.specs.Answers.{Answers}
use Rattle.semver_answers.specs.Internal.Steps.{Turned}
use Rattle.semver_answers.proofs.run.run_turns.Given as goal

abbrev pub invariant-reads : goal.invariant-reads
invariant-reads g l = (0 < length l.buffer) × ((bytes : List ℕ)
    × Turned Answers (g.R.Read.remaining l.initial.reader) (g.R.Read.remaining l.reader) (g.W.Write.contents l.initial.writer)
    (g.W.Write.contents l.writer) [] l.lines.pending.items bytes)
