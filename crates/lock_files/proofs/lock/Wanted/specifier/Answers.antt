use Rattle.std.proofs.Common.{subst}
use Rattle.lock_files.specs.Specifiers.{IsSpecifier}
use Rattle.lock_files.proofs.Npm.{wanted-as}
use Rattle.lock_files.proofs.lock.Wanted.specifier.Goals.{in-Text, in-Text-2}
use Rattle.lock_files.proofs.lock.Wanted.specifier.Goals as goal

pub returns-in-Text : goal.returns-in-Text
returns-in-Text c =
    let found = c.of.result in
    elim c.in-Text-1.branch [
      | in-Text w ↦ wanted-as c.args.self w.in-Text.text found w.in-Text.is
          (subst (λ t. IsSpecifier t.now found) w.text-is c.of.ensures)
      | in-Text-2 w ↦ wanted-as c.args.self w.in-Text.text found w.in-Text.is
          (subst (λ t. IsSpecifier t.now found) w.text-is c.of.ensures)
    ]
