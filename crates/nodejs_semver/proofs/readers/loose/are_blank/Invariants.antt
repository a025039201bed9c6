use Rattle.{nodejs_semver.proofs.Common.{is_empty, later_parts, list_all, rest_view, ◌≡◌}, semver_core.specs.Internal.Parts.left_over}
use Rattle.nodejs_semver.proofs.readers.loose.are_blank.Given as goal

abbrev pub invariant-parts : goal.invariant-parts
invariant-parts l = list_all is_empty (later_parts (rest_view l.text)) ≡ list_all is_empty (later_parts (rest_view l.rest))

abbrev pub decreases-parts : goal.decreases-parts
decreases-parts l = left_over (rest_view l.rest)
