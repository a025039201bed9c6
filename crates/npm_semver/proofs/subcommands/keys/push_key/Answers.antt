use Rattle.std.proofs.Common.{arith, refl}
use Rattle.std.proofs.lemmas.Grind.{common_steps}
use Rattle.hex.specs.Hex.{encode_lower}
use Rattle.npm_semver.proofs.Keyed.{no_key}
use Rattle.semver_core.specs.Keys.{key}
use Rattle.npm_semver.proofs.subcommands.keys.push_key.Goals as goal

pub returns-in_default-clause-none : goal.returns-in_default-clause-none
returns-in_default-clause-none c = λ e. no_key c.args.text.now c.in_default.ensures.refused

pub returns-clause-some : goal.returns-clause-some
returns-clause-some c = λ e.
    (encode_lower (key c.in-Ok.version), (c.in-Ok.version, c.in-Ok.ensures.ok, refl), grind (arith, common_steps))
