use Rattle.std.proofs.{Common.{append_assoc, codes, decimal, refl, sym, ◌++◌}, Output.{has_written_styled_append, has_written_styled_of_eq}}
use Rattle.npm_reading.proofs.messages.RangeFlawDisplay.fmt.Goals as goal

pub returns-clause-styled : goal.returns-clause-styled
returns-clause-styled g c flush ok =
    let flaw = c.args.self.now in
    let begin = c.in_ok-write_at.ensures flush refl in
    let end = c.write_at-2.ensures begin.flush ok in
    has_written_styled_of_eq _ _ _ _ _
    (sym (append_assoc (codes "malformed word at bytes " ++ decimal flaw.word_start) (codes " to ") (decimal flaw.word_end)))
    (has_written_styled_append _ _ _ _ _ _ begin end)
