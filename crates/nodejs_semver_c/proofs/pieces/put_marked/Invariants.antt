use Rattle.std.proofs.Common.{◌≡◌, ◌++◌, ℕ, List, length}
use denote.Text.{Utf8}
use denote.Shadow.{shadow}
use Rattle.semver_core.specs.Printing.Text.{marked_list}
use Rattle.nodejs_semver_c.specs.Internal.Pieces.{Adds}
use Rattle.nodejs_semver_c.proofs.pieces.put_marked.Given as goal

-- what was put, and what is left behind its mark, are the whole
abbrev pub invariant-ids : goal.invariant-ids
invariant-ids l =
    (text : shadow (Utf8 l.sign)) × (so_far : List ℕ) × Adds so_far l.initial.out l.out l.initial.len l.len
    × (so_far ++ marked_list l.sign l.others ≡ marked_list l.initial.sign l.initial.others)

abbrev pub decreases-ids : goal.decreases-ids
decreases-ids l = length l.others
