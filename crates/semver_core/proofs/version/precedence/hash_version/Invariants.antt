use Rattle.semver_core.proofs.Common.{length, ◌≡◌}
use Rattle.{semver_core.specs.Internal.Hashes.id_writes, std.specs.List.{flat_map, fold}}
use Rattle.semver_core.proofs.version.precedence.hash_version.Given as goal

abbrev pub invariant-ids : goal.invariant-ids
invariant-ids g l =
    fold g.H.Hasher.write l.state (flat_map id_writes l.ids)
    ≡ fold g.H.Hasher.write l.initial.state (flat_map id_writes l.initial.ids)

abbrev pub decreases-ids : goal.decreases-ids
decreases-ids g l = length l.ids
