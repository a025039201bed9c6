use Rattle.semver_core.proofs.Common.{ids_view, ◌++◌, ◌≡◌}
use Rattle.semver_core.proofs.increment.next_ids.NextIds.to_list.Given as goal

abbrev pub invariant-ids : goal.invariant-ids
invariant-ids l = ids_view l.list.items ++ l.others ≡ l.fn.self
