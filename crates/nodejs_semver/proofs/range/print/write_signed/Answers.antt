use Rattle.nodejs_semver.proofs.Common.{has_written_styled_append, refl}
use Rattle.nodejs_semver.proofs.range.print.write_signed.Goals as goal

pub returns : goal.returns
returns g c flush ok =
    let sign = c.in_ok-write_str.ensures.styled flush refl in
    has_written_styled_append _ _ _ _ _ _ sign (c.print.ensures sign.flush ok)
