use Rattle.std.proofs.Common.{arith, refl}
use Rattle.std.specs.Fmt.{digits}
use Rattle.semver_core.specs.Text.Identifiers.{listed}
use Rattle.core_tests.proofs.tests.print.reread_gives_a_version_with_identifiers.Goals as goal

pub reread-requires-clause-readable : goal.reread-requires-clause-readable
unfolding digits listed
reread-requires-clause-readable g c = rw c.in_ok-version.ensures.whole refl

pub reread-requires-clause-short : goal.reread-requires-clause-short
unfolding digits listed
reread-requires-clause-short g c = rw c.in_ok-version.ensures.whole (omega arith)
