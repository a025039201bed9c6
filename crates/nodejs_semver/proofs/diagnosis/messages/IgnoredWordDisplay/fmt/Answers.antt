use Rattle.nodejs_semver.proofs.Common.{◌≡◌, ap, arith, refl, sym, ◌∙◌, List, ℕ, ◌++◌, append_assoc, has_written_styled_append, decimal}
use Rattle.nodejs_semver.proofs.Common.{codes, has_written_styled_of_eq, subst}
use Rattle.std.specs.Fmt.{IsDefaultSpec}
use Rattle.nodejs_semver.specs.Diagnosis.Messages.{kind_text}
use Rattle.nodejs_semver.proofs.diagnosis.messages.IgnoredWordDisplay.fmt.Goals as goal

pub returns-clause-styled : goal.returns-clause-styled
returns-clause-styled g c flush ok =
    let word = c.args.self.now in
    let message : c.match-self.message.now ≡ kind_text word.kind = grind arith in
    let begin = c.in_ok-write_at.ensures flush refl in
    let end = c.write_at-2.ensures begin.flush ok in
    has_written_styled_of_eq _ _ _ _ _ (ap (λ (t : List ℕ). t ++ decimal word.start ++ (codes " to " ++ decimal word.end)) message
    ∙ sym (append_assoc (kind_text word.kind ++ decimal word.start) (codes " to ") (decimal word.end))) (has_written_styled_append _ _ _ _ _ _ begin end)

pub returns-clause-writes : goal.returns-clause-writes
returns-clause-writes g c plain ok =
    let h = returns-clause-styled g c plain.flush ok in
    record { wrote = h.wrote; plain = record { bare = subst IsDefaultSpec (sym h.spec) plain.bare; flush = h.flush } }
