use Rattle.std.proofs.Common.{arith, Some}
use Rattle.nodejs_semver_c.proofs.Releases.{found_in_each, port_found, release_is}
use Rattle.nodejs_semver_c.proofs.read.common_version.Goals as goal

pub returns-then-is_empty : goal.returns-then-is_empty
returns-then-is_empty c = found_in_each c.args.reading _ (Some c.in_ok-release.release) (omega (arith, c.if-reading-gt-READING_NPM_LOOSE.false))
    (release_is _ _ c.in_ok-release.release c.in_ok-release.ensures (rw c.is_empty.ensures at c.if-is_empty.true))

pub returns-then-reading-eq-READING_PORT : goal.returns-then-reading-eq-READING_PORT
returns-then-reading-eq-READING_PORT c = port_found _ _ _ c.if-reading-eq-READING_PORT.true (c.with_lists.ensures _ c.in_ok-release.ensures)
