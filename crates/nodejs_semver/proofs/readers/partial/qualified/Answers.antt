use Rattle.{nodejs_semver.proofs.Common.rules, semver_core.{proofs.Reading.IdentifierLists.short_lists, specs.Internal.Fronts.pre_release_with}}
use Rattle.nodejs_semver.proofs.readers.partial.qualified.Goals as goal

pub returns : goal.returns
unfolding pre_release_with
returns c = search (rules, short_lists)
