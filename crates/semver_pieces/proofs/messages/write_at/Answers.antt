use Rattle.std.proofs.{Common.{List, ap, refl, ℕ, ◌++◌}, Output.{has_written_styled_append, has_written_styled_of_eq}}
use Rattle.semver_pieces.proofs.messages.write_at.Goals as goal

pub returns : goal.returns
returns g c flush ok =
    let message = c.in_ok-write_str.ensures.styled flush refl in
    let place = c.write_str-2.ensures.styled message.flush ok in
    has_written_styled_of_eq _ _ _ _ _ (ap (λ (t : List ℕ). c.args.message.now ++ t) c.format.ensures.text) (has_written_styled_append _ _ _ _ _ _ message place)
