use Rattle.std.proofs.Common.{◌≡◌, ◌∙◌, arith, false, sym, true}
use Rattle.lock_files.specs.Specifiers.{has}
use Rattle.lock_files.proofs.Parts.{has-from_contains}
use Rattle.lock_files.proofs.specifier.is_place.Goals as goal

pub returns-then-contains : goal.returns-then-contains
returns-then-contains c =
    let text = c.args.text.now in
    let one = has-from_contains 47 text c.contains.result (omega arith) c.contains.ensures.cases in
    let some : has 47 text ≡ true = sym one ∙ c.if-contains.true in
    let is = c.if-contains.true in rw some (cc)

pub returns-else-contains : goal.returns-else-contains
returns-else-contains c =
    let text = c.args.text.now in
    let one = has-from_contains 47 text c.contains.result (omega arith) c.contains.ensures.cases in
    let none : has 47 text ≡ false = sym one ∙ c.if-contains.false in
    rw none c.is_packed.ensures
