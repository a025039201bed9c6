use Rattle.std.proofs.Common.{arith}
use Rattle.nodejs_semver_c.proofs.Ranging.{kept_readable}
use Rattle.nodejs_semver_c.proofs.intervals.check_version.Goals as goal

pub returns-clause-ok : goal.returns-clause-ok
returns-clause-ok c =
    let ok = c.in_ok-check.ensures.ok in (
      ok,
      kept_readable _ c.args.version.now _ ok (omega (arith, c.if-version-most.false))
          (omega (arith, c.if-version-most-2.false)) (omega (arith, c.if-version-most-3.false)),
    )
