use Rattle.std.proofs.Common.{◌≡◌, ◌∙◌, ap, arith, false, not, sym}
use Rattle.std.proofs.lemmas.Bool.{not-true}
use Rattle.lock_files.specs.Specifiers.{has}
use Rattle.lock_files.proofs.Parts.{has-from_contains}
use Rattle.lock_files.proofs.specifier.is_unmarked.Goals.{then-not-contains, else-not-contains}
use Rattle.lock_files.proofs.specifier.is_unmarked.Goals as goal

pub returns-then-not-contains-2 : goal.returns-then-not-contains-2
returns-then-not-contains-2 c =
    let text = c.args.text.now in
    let one = has-from_contains 58 text c.contains.result (omega arith) c.contains.ensures.cases in
    elim c.if-not-contains.branch [
      | then-not-contains w ↦
          let two = has-from_contains 64 text w.contains-then-not-contains.result (omega arith)
          w.contains-then-not-contains.ensures.cases in
          let colon : has 58 text ≡ false = sym one ∙ w.if-not-contains.true in
          let sign : has 64 text ≡ false =
          sym two ∙ not-true w.contains-then-not-contains.result (sym w.value-is ∙ c.if-not-contains-2.true) in
          rw colon (rw sign (ap not c.has_whitespace.ensures))
      | else-not-contains w ↦
          let is = w.value-is in let some = w.if-not-contains.false in let yes = c.if-not-contains-2.true in absurd (cc)
    ]
