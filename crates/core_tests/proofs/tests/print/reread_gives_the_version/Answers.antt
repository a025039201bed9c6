use Rattle.std.proofs.Common.{arith}
use Rattle.std.specs.Fmt.{digits}
use Rattle.core_tests.proofs.tests.print.reread_gives_the_version.Goals as goal

pub reread-requires-clause-short : goal.reread-requires-clause-short
unfolding digits
reread-requires-clause-short g c = rw c.from-version.ensures (omega arith)
