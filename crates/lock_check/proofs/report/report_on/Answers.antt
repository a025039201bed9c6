use Rattle.std.proofs.Common.{rules}
use Rattle.lock_check.proofs.report.report_on.Goals as goal

pub returns : goal.returns
returns c = record {
  findings = c.in_ok-findings.findings.of_dependencies.items;
  faults = c.in_ok-findings.findings.faults.items;
  rows = c.in_ok-rows.rows.items;
  counts = c.of-counts.result;
  each = c.in_ok-findings.ensures.each;
  all = c.in_ok-findings.ensures.all;
  single = c.in_ok-findings.ensures.single;
  workspaces = c.in_ok-findings.ensures.workspaces;
  malformed = c.in_ok-findings.ensures.malformed;
  told = search (rules, c.in_ok-rows.ensures);
  counted = record {
    packages = c.of-counts.ensures.packages;
    dependencies = c.of-counts.ensures.dependencies;
    satisfied = c.of-counts.ensures.satisfied;
    rejected = c.of-counts.ensures.rejected;
    missing = c.of-counts.ensures.missing;
    absent = c.of-counts.ensures.absent;
    skipped = c.of-counts.ensures.skipped;
    skips = c.of-counts.ensures.skips;
    malformed = c.of-counts.ensures.malformed;
  };
  printed = search rules;
  status = record {
    trouble = c.exit_status.ensures.trouble;
    rejected = c.exit_status.ensures.rejected;
    missing = c.exit_status.ensures.missing;
    clean = c.exit_status.ensures.clean;
  };
}
