use Rattle.std.proofs.Common.{◌≡◌, take}
use Rattle.std.specs.List.{AllZip}
use Rattle.std.specs.Prelude.{vec_capacity, vec_len}
use Rattle.nodejs_semver_c.specs.Kept.{IsKept}
use Rattle.nodejs_semver_c.proofs.kept_simple.fill.Given as goal

-- the versions so far are put into the list, which keeps its room
abbrev pub invariant-versions : goal.invariant-versions
invariant-versions l = AllZip IsKept (take l.at l.versions) l.list.items × (vec_len l.list ≡ l.at)
    × (vec_capacity l.list ≡ vec_capacity l.initial.list) × (l.index ≡ l.initial.index)
