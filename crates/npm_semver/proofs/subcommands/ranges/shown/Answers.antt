use Rattle.npm_semver.proofs.Answered.{shown_empty, shown_some}
use Rattle.npm_semver.proofs.subcommands.ranges.shown.Goals as goal

pub returns-then-is_none : goal.returns-then-is_none
returns-then-is_none c =
    shown_empty _ _ _ _ c.in-Some.is c.in_ok-min_version.ensures.least c.if-is_none.ensures c.bare-then-is_none.ensures

pub returns : goal.returns
returns c = shown_some _ _ _ _ c.in-Some.is c.in_ok-min_version.ensures.least c.if-is_none.ensures c.in_ok-printed.ensures
