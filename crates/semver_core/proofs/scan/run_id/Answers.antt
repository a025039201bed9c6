use Rattle.semver_core.proofs.Text.{Digits.{scan_end, scan_fits}, Runs.run_boundary}
use Rattle.semver_core.proofs.scan.run_id.Goals as goal

pub returns-in-Some-clause-after : goal.returns-in-Some-clause-after
returns-in-Some-clause-after c = (scan_fits c.args.text.now c.args.start c.args.run c.requires.run c.requires.place).0

pub returns-in-Some-clause-fits : goal.returns-in-Some-clause-fits
returns-in-Some-clause-fits c = (scan_fits c.args.text.now c.args.start c.args.run c.requires.run c.requires.place).1

pub range-requires-clause-start_le_end : goal.range-requires-clause-start_le_end
range-requires-clause-start_le_end c = (scan_fits c.args.text.now c.args.start c.args.run c.requires.run c.requires.place).0

pub range-requires-clause-end_boundary : goal.range-requires-clause-end_boundary
range-requires-clause-end_boundary c =
    run_boundary c.args.text.now c.args.start c.args.run.0 c.utf8.text c.requires.place c.requires.here
    (scan_end c.args.text.now c.args.start c.args.run c.requires.run).0
