use Rattle.nodejs_semver.proofs.Common.{MAX_SAFE_INTEGER, Some, ap, arith, ◌∙◌}
use Rattle.nodejs_semver.proofs.Everyday.Parts.{bare_nothing, bare_triple}
use Rattle.nodejs_semver.proofs.readers.fast.InLinesPlace.bare_front.Goals as goal

pub returns-in-Some : goal.returns-in-Some
returns-in-Some c =
    ap Some c.qualified.ensures ∙ bare_triple MAX_SAFE_INTEGER c.args.text.now c.in-Some.major c.in-Some.minor c.in-Some.patch c.in-Some.rest.now
    c.in-Some.ensures.some

pub returns-in-None-2 : goal.returns-in-None-2
returns-in-None-2 c = grind (arith, bare_nothing)
