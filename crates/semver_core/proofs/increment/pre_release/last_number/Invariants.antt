use Rattle.semver_core.proofs.Common.{Tracks, drop, ◌≡◌}
use Rattle.semver_core.proofs.increment.pre_release.last_number.Given as goal

abbrev pub invariant-ids : goal.invariant-ids
invariant-ids l = (l.others ≡ drop l.at l.fn.ids) × Tracks l.fn.ids l.others l.last
