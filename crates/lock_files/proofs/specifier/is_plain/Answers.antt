use Rattle.std.proofs.Common.{◌≡◌, ◌∙◌, ap, arith, false, not, refl, sym, true}
use Rattle.lock_files.specs.Specifiers.{has}
use Rattle.lock_files.proofs.Parts.{has-from_contains}
use Rattle.lock_files.proofs.specifier.is_plain.Goals as goal

pub returns-then-not-contains : goal.returns-then-not-contains
returns-then-not-contains c =
    let text = c.args.text.now in
    let one = has-from_contains 47 text c.contains.result (omega arith) c.contains.ensures.cases in
    let two = has-from_contains 58 text c.contains-then-not-contains.result (omega arith)
    c.contains-then-not-contains.ensures.cases in
    let none : has 47 text ≡ false = sym one ∙ c.if-not-contains.true in
    rw none (rw two refl)

pub returns-else-not-contains : goal.returns-else-not-contains
returns-else-not-contains c =
    let text = c.args.text.now in
    let one = has-from_contains 47 text c.contains.result (omega arith) c.contains.ensures.cases in
    let some : has 47 text ≡ true = sym one ∙ c.if-not-contains.false in
    rw some (ap not c.if-not-contains.false)
