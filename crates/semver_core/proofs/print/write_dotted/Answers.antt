use Rattle.semver_core.proofs.Common.{refl, rules, ◌∙◌, has_written_styled_append, has_written_styled_of_eq}
use Rattle.semver_core.proofs.Printing.Returns.{digit_text}
use Rattle.semver_core.proofs.print.write_dotted.Goals as goal

pub returns-then-number-lt10 : goal.returns-then-number-lt10
returns-then-number-lt10 g c flush ok =
    has_written_styled_of_eq _ _ _ _ _ (c.range.ensures.value ∙ (digit_text c.args.number (search rules)).1)
    (c.write_str.ensures.styled flush ok)

pub returns : goal.returns
returns g c flush ok =
    let number = c.in_ok-write_decimal.ensures flush refl in
    has_written_styled_append _ _ _ _ _ _ number (c.write_str-2.ensures.styled number.flush ok)
