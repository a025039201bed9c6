use Rattle.npm_semver.proofs.Keyed.{not_valid}
use Rattle.npm_semver.proofs.subcommands.parts.validity.Goals as goal

pub returns : goal.returns
returns c = not_valid _ _ (c.is_version.ensures.none c.if-is_version.false) c.troubled.ensures
