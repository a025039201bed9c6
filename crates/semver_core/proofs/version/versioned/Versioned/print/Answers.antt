use Rattle.semver_core.proofs.Common.{append_assoc, refl, rules, has_written_styled_append, has_written_styled_of_eq}
use Rattle.semver_core.proofs.version.versioned.Versioned.print.Goals as goal

pub returns : goal.returns
returns g c flush ok =
    let major = c.in_ok-write_dotted.ensures flush refl in
    let minor = c.in_ok-write_dotted-2.ensures major.flush refl in
    let patch = c.in_ok-write_decimal.ensures minor.flush refl in
    let pre_release = c.in_ok-write_list.ensures patch.flush refl in
    has_written_styled_of_eq _ _ _ _ _
    (rw (c.major.ensures, c.minor.ensures, c.patch.ensures, c.pre_release.ensures, c.build.ensures)
    (simp append_assoc (search rules)))
    (has_written_styled_append _ _ _ _ _ _ (has_written_styled_append _ _ _ _ _ _ (has_written_styled_append _ _ _ _ _ _
    (has_written_styled_append _ _ _ _ _ _ major minor) patch) pre_release) (c.write_list-2.ensures pre_release.flush ok))
