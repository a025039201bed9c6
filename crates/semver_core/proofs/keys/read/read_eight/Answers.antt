use Rattle.std.proofs.Common.{arith}
use Rattle.std.proofs.lemmas.Nat.{be_bytes_8}
use Rattle.semver_core.proofs.Encoding.Reading.{spelled}
use Rattle.semver_core.proofs.keys.read.read_eight.Goals as goal

pub returns-clause-sound : goal.returns-clause-sound
returns-clause-sound c =
    let (front, back, count) = c.in-Some.ensures.cases in (
      omega (arith, c.if-number.false),
      omega (arith, c.from_be_bytes-number.type_inv),
      spelled 8 _ _ _ _ front back count (λ i. omega (arith, c.type_inv.bytes i))
          (λ long small. be_bytes_8 _ _ long small c.from_be_bytes-number.ensures),
    )
