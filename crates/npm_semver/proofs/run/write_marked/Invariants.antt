use Rattle.std.proofs.Common.{◌≡◌, ◌++◌, ℕ, List, length, string_bytes}
use denote.Text.{Utf8}
use denote.Shadow.{shadow}
use Rattle.semver_core.specs.Printing.Text.{marked_list}
use Rattle.npm_semver.proofs.run.write_marked.Given as goal

-- what was written, and what is left behind its mark, are the whole
abbrev pub invariant-ids : goal.invariant-ids
invariant-ids l =
    (text : shadow (Utf8 l.mark)) × (so_far : List ℕ) × (string_bytes l.output ≡ string_bytes l.initial.output ++ so_far)
    × (so_far ++ marked_list l.mark l.others ≡ marked_list l.initial.mark l.initial.others)

abbrev pub decreases-ids : goal.decreases-ids
decreases-ids l = length l.others
