use Rattle.nodejs_semver.proofs.Common.{rules, table}
use Rattle.semver_core.proofs.Reading.IdentifierLists.{short_lists}
use Rattle.nodejs_semver.proofs.readers.table.compare.Goals as goal

pub invariant_of-unbuilt : goal.invariant_of-unbuilt
invariant_of-unbuilt c = search (rules, short_lists)

pub returns-in_ok-partial-in-Equal : goal.returns-in_ok-partial-in-Equal
unfolding table
returns-in_ok-partial-in-Equal c = search (rules, short_lists)
