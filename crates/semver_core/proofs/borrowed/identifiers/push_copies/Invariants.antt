use Rattle.semver_core.proofs.Common.{ids_view, take, ◌++◌, ◌≡◌}
use Rattle.semver_core.proofs.borrowed.identifiers.push_copies.Given as goal

abbrev pub invariant-loop-id : goal.invariant-loop-id
invariant-loop-id l = ids_view l.list.items ≡ ids_view l.initial.list.items ++ ids_view (take l.id-index l.items)
