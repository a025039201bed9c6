use Rattle.std.proofs.Common.{ap, subst}
use Rattle.lock_files.specs.Nested.{IsLastPart}
use Rattle.lock_files.proofs.Packed.{named-at}
use Rattle.lock_files.proofs.nested.packed_version.Goals as goal

pub returns : goal.returns
returns c =
    let own = c.last_part.result.now in (
      c.last_part-file.result.now,
      own,
      c.last_part-file.ensures,
      named-at c.args.name c.args.place.now c.last_part-file.result.now own c.registry_front.result
          c.registry_front.ensures (subst (λ t. IsLastPart t own) (ap (λ t. t.now) c.unwrap_or-name.ensures) c.last_part.ensures),
      c.version_in.ensures,
    )
