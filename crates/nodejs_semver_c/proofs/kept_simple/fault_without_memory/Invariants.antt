use Rattle.std.proofs.Common.{◌≡◌, List, take}
use Rattle.std.specs.List.{AllZip}
use Rattle.semver_core.specs.Values.Versions.{VersionValue}
use Rattle.nodejs_semver_c.specs.Kept.{IsKept}
use Rattle.nodejs_semver_c.proofs.kept_simple.fault_without_memory.Given as goal

-- the versions so far are kept
abbrev pub invariant-versions : goal.invariant-versions
invariant-versions l = ((vs : List VersionValue) × AllZip IsKept (take l.at l.versions) vs) × (l.index ≡ l.initial.index)
