use Rattle.std.proofs.Common.{arith}
use Rattle.npm_semver.proofs.ReadTexts.{none_coerced, none_strict, some_coerced}
use Rattle.npm_semver.proofs.reading.ReadOptions.version_as.Goals as goal

pub returns-then-not-self-clause-none : goal.returns-then-not-self-clause-none
returns-then-not-self-clause-none c =
    none_strict c.args.self _ _ _ c.ok.ensures.value (grind (arith, c.if-not-self.true)) c.version.ensures.refused

pub returns-in-None-clause-some : goal.returns-in-None-clause-some
returns-in-None-clause-some c =
    some_coerced c.args.self _ _ _ c.ok-in-None.ensures.value (grind (arith, c.if-not-self.false)) c.in-None.ensures.none c.version-in-None.ensures.ok

pub returns-in-None-clause-none : goal.returns-in-None-clause-none
returns-in-None-clause-none c =
    none_coerced c.args.self _ _ _ c.ok-in-None.ensures.value c.in-None.ensures.none c.version-in-None.ensures.refused
