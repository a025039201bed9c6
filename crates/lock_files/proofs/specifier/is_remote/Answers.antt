use Rattle.std.proofs.Common.{◌≡◌, ◌∙◌, arith, false, sym, true}
use Rattle.lock_files.specs.Specifiers.{has}
use Rattle.lock_files.proofs.Parts.{has-from_contains}
use Rattle.lock_files.proofs.specifier.is_remote.Goals as goal

pub returns-then-contains : goal.returns-then-contains
returns-then-contains c =
    let text = c.args.text.now in
    let one = has-from_contains 64 text c.contains.result (omega arith) c.contains.ensures.cases in
    let two = has-from_contains 58 text c.contains-then-contains.result (omega arith)
    c.contains-then-contains.ensures.cases in
    let some : has 64 text ≡ true = sym one ∙ c.if-contains.true in
    rw some two

pub returns-else-contains : goal.returns-else-contains
returns-else-contains c =
    let text = c.args.text.now in
    let one = has-from_contains 64 text c.contains.result (omega arith) c.contains.ensures.cases in
    let none : has 64 text ≡ false = sym one ∙ c.if-contains.false in
    rw none c.if-contains.false
