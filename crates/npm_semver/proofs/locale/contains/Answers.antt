use Rattle.std.proofs.lemmas.Str.Pattern.{contains_text}
use Rattle.npm_semver.proofs.locale.contains.Goals as goal

pub returns : goal.returns
returns c = contains_text _ _ _ c.contains.ensures.cases
