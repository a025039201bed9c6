use Rattle.std.proofs.lemmas.Option.{IfSome_then}
use Rattle.semver_core.specs.Text.Identifiers.{AlphaNumeric, Numeric}
use Rattle.semver_core.proofs.keys.check.behind_id.Goals as goal

pub returns-in-Some-read_number-clause-sound : goal.returns-in-Some-read_number-clause-sound
returns-in-Some-read_number-clause-sound c =
    let found = c.in-Some-read_number in
    (Numeric found.field-0-0, found.ensures.sound.0, cc (found.ensures.sound.1, c.in-Some.ensures.cases.0, c.in-1.is))

pub returns-in-2-clause-sound : goal.returns-in-2-clause-sound
returns-in-2-clause-sound c = IfSome_then c.behind_text.result c.behind_text.ensures.sound
    (λ rest text. (AlphaNumeric text.0, text.1, cc (text.2, c.in-Some.ensures.cases.0, c.in-2.is)))
