use Rattle.semver_core.proofs.Common.{sym, length-take-le}
use Rattle.semver_core.proofs.Text.{Firsts.{front_end, front_fits, front_number}}
use Rattle.semver_core.proofs.borrowed.dotted.first_id.Goals as goal

pub slice_bounds-run_id-end : goal.slice_bounds-run_id-end
slice_bounds-run_id-end c =
    sym (length-take-le c.scan_run-end.result.0 c.args.text.now
    (front_fits c.args.text.now c.scan_run-end.result c.scan_run-end.ensures))

pub run_id-requires-clause-number : goal.run_id-requires-clause-number
run_id-requires-clause-number c =
    rw (front_end c.args.text.now c.scan_run-end.result c.scan_run-end.ensures)
    (front_number c.args.text.now c.scan_run-end.result c.scan_run-end.ensures)
