use Rattle.std.proofs.Common.{◌∙◌, arith}
use Rattle.std.proofs.lemmas.Nat.{be_bytes_4}
use Rattle.semver_core.proofs.Encoding.Reading.{spelled}
use Rattle.semver_core.proofs.keys.read.read_four.Goals as goal

pub returns-clause-sound : goal.returns-clause-sound
returns-clause-sound c =
    let (front, back, count) = c.in-Some.ensures.cases in (
      omega (arith, c.if-number.false),
      omega (arith, c.from-number.ensures, c.from_be_bytes.type_inv),
      spelled 4 _ _ _ _ front back count (λ i. omega (arith, c.type_inv.bytes i))
          (λ long small. be_bytes_4 _ _ long small (c.from-number.ensures ∙ c.from_be_bytes.ensures)),
    )
