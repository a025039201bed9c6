use Rattle.semver_core.proofs.Common.{bytes_eq, false, has_numeric, list_text, marked_list, ◌≡◌}
use Rattle.semver_core.proofs.increment.pre_release.is_text_of.Given as goal

abbrev pub invariant-ids : goal.invariant-ids
invariant-ids l = (bytes_eq l.rest (marked_list l.mark l.others) ≡ bytes_eq l.fn.text (list_text l.fn.ids))
    × (has_numeric l.others ≡ false)
