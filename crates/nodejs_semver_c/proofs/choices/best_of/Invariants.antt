use Rattle.std.proofs.Common.{◌≡◌, List, false, length, take}
use Rattle.semver_core.specs.Values.Versions.{VersionValue}
use Rattle.nodejs_semver_c.specs.Internal.Choices.{IsBestAt, IsBestOf}
use Rattle.nodejs_semver_c.specs.Lists.{AreVersionsOf}
use Rattle.nodejs_semver_c.proofs.choices.best_of.Given as goal

-- the texts so far are read, and the best of their versions stands at the place
abbrev pub invariant-versions : goal.invariant-versions
invariant-versions l = (vs : List VersionValue) × ((length vs ≡ l.at) × (AreVersionsOf l.reading (take l.at l.versions) vs
    × (IsBestAt (IsBestOf l.which l.range false) vs l.best l.place × (l.index ≡ l.initial.index))))
