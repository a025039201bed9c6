use Rattle.semver_core.proofs.Common.{List, length, ℕ, ◌++◌, ◌≡◌, marked_list, HasWrittenStyled, IsFlush, shadow, Utf8}
use Rattle.semver_core.proofs.print.write_list.Given as goal

abbrev pub invariant-ids : goal.invariant-ids
invariant-ids g l =
    (text : shadow (Utf8 l.sign))
    × (IsFlush l.initial.f → (so_far : List ℕ) × HasWrittenStyled g.W.Write.write_str_gives l.initial.f so_far l.f
    × (so_far ++ marked_list l.sign l.others ≡ marked_list l.initial.sign l.initial.others))

abbrev pub decreases-ids : goal.decreases-ids
decreases-ids g l = length l.others
