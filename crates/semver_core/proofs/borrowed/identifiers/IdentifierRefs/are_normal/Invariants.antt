use Rattle.semver_core.proofs.Common.{is_normal, length, list_all, ◌≡◌}
use Rattle.semver_core.proofs.borrowed.identifiers.IdentifierRefs.are_normal.Given as goal

abbrev pub invariant-ids : goal.invariant-ids
invariant-ids l = list_all is_normal l.initial.others ≡ list_all is_normal l.others

abbrev pub decreases-ids : goal.decreases-ids
decreases-ids l = length l.others
