use Rattle.nodejs_semver.proofs.Common.{MAX_SAFE_INTEGER, flat_map, later_parts, part_denotes, rest_view, ◌++◌, ◌∷◌, ◌≡◌}
use Rattle.semver_core.specs.Internal.Parts.{left_over}
use Rattle.nodejs_semver.proofs.readers.loose.add_parts.Given as goal

abbrev pub invariant-parts : goal.invariant-parts
invariant-parts l =
    l.found.items ++ flat_map (part_denotes MAX_SAFE_INTEGER) (later_parts (rest_view l.rest))
    ≡ flat_map (part_denotes MAX_SAFE_INTEGER) (l.first ∷ later_parts (rest_view l.behind))

abbrev pub decreases-parts : goal.decreases-parts
decreases-parts l = left_over (rest_view l.rest)
