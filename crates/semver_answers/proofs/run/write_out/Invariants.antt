use Rattle.std.proofs.Common.{◌≡◌, ◌++◌, length, List, ℕ}
use Rattle.std.specs.Io.KnownBytes.{Appends}
use Rattle.semver_answers.proofs.run.write_out.Given as goal

abbrev pub invariant-writes : goal.invariant-writes
invariant-writes g l = (done : List ℕ) × (l.initial.rest ≡ done ++ l.rest) × Appends (g.W.Write.contents l.initial.writer) (g.W.Write.contents l.writer) done

abbrev pub decreases-writes : goal.decreases-writes
decreases-writes g l = length l.rest
