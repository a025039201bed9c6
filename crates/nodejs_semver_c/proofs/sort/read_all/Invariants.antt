use Rattle.std.proofs.Common.{◌≡◌, List, length, take}
use Rattle.semver_core.specs.Values.Versions.{VersionValue}
use Rattle.nodejs_semver_c.specs.Lists.{AreVersionsOf, placed}
use Rattle.nodejs_semver_c.proofs.sort.read_all.Given as goal

-- the texts so far are read, and their versions stand with their places
abbrev pub invariant-versions : goal.invariant-versions
invariant-versions l = (vs : List VersionValue) × ((length vs ≡ l.at) × (AreVersionsOf l.reading (take l.at l.versions) vs
    × ((l.all.items ≡ placed vs) × (l.index ≡ l.initial.index))))
