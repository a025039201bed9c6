use Rattle.nodejs_semver.proofs.Common.{ap, arith, has_written_styled_append, has_written_styled_of_eq, is_eq, refl, sym, ◌∙◌}
use Rattle.nodejs_semver.proofs.range.print.write_interval.Goals as goal

pub returns-in_ok-write_str-in_default : goal.returns-in_ok-write_str-in_default
returns-in_ok-write_str-in_default g c flush ok =
    let lower = c.in_ok-write_lower-in_default.ensures flush refl in
    let space = c.in_ok-write_str-in_default.ensures.styled lower.flush refl in
    let upper = c.write_upper-in_default.ensures space.flush ok in
    has_written_styled_of_eq _ _ _ _ _ (grind arith)
    (has_written_styled_append _ _ _ _ _ _ lower (has_written_styled_append _ _ _ _ _ _ space upper))

pub returns-in-Before-After : goal.returns-in-Before-After
returns-in-Before-After g c flush ok = has_written_styled_of_eq _ _ _ _ _
    (rw (sym c.lower-lower.ensures.value ∙ c.in-Before-After.is-0, sym c.upper-upper.ensures ∙ c.in-Before-After.is-1)
    (rw (ap is_eq (sym (g.met.V.VersionPoint.ordered c.in-Before-After.v c.in-Before-After.w))
    ∙ sym c.if-are_equal.ensures) refl)) (c.print.ensures flush ok)
