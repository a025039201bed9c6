use Rattle.semver_core.proofs.{Common.{rules, ◌∙◌, has_written_styled_of_eq}, Printing.Returns.digit_text}
use Rattle.semver_core.proofs.print.write_decimal.Goals as goal

pub returns-then-number-lt10 : goal.returns-then-number-lt10
returns-then-number-lt10 g c flush ok =
    has_written_styled_of_eq _ _ _ _ _ (c.range.ensures.value ∙ (digit_text c.args.number (search rules)).0)
    (c.write_str.ensures.styled flush ok)
