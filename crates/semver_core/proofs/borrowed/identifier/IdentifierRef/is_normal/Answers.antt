use Rattle.semver_core.proofs.Common.{arith, nat_tests, sym}
use Rattle.semver_core.proofs.Text.Firsts.{run_normal}
use Rattle.semver_core.proofs.borrowed.identifier.IdentifierRef.is_normal.Goals as goal

pub returns-then-end-bytes : goal.returns-then-end-bytes
returns-then-end-bytes c =
    let bytes = c.as_bytes-bytes in
    let normal = rw bytes.ensures.value at
    (run_normal bytes.result.now c.scan_run-end.result (sym c.if-not-begins_identifier.ensures) c.scan_run-end.ensures) in
    rw (c.in-AlphaNumeric.is, normal) (grind (arith, nat_tests))

pub returns-else-end-bytes : goal.returns-else-end-bytes
returns-else-end-bytes c =
    let bytes = c.as_bytes-bytes in
    let normal = rw bytes.ensures.value at
    (run_normal bytes.result.now c.scan_run-end.result (sym c.if-not-begins_identifier.ensures) c.scan_run-end.ensures) in
    rw (c.in-AlphaNumeric.is, normal) (grind (arith, nat_tests))
