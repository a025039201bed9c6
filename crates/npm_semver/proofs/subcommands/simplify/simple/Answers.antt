use Rattle.npm_semver.proofs.Simplified.{simplified_said}
use Rattle.npm_semver.specs.Internal.Said.{said}
use Rattle.npm_semver.proofs.subcommands.simplify.simple.Goals as goal

pub returns-clause-ok : goal.returns-clause-ok
returns-clause-ok c = simplified_said c.args.text.now c.in_ok-range.range c.in_ok-found.found (said c.in_ok-shown.field-0)
    c.in_ok-range.ensures.ok c.in_ok-found.ensures.exact c.in_ok-found.ensures.simple c.in_ok-found.ensures.some c.in_ok-found.ensures.none
    c.in_ok-shown.ensures
