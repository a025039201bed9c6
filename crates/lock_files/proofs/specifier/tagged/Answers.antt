use Rattle.std.proofs.Common.{◌∙◌, arith, codes, inl, inr, option_map, subst, sym}
use Rattle.std.proofs.lemmas.Bool.{iff_false}
use Rattle.std.proofs.lemmas.Str.Pattern.{contains_text}
use Rattle.lock_files.specs.Specifiers.{IsRangeNamed}
use Rattle.lock_files.proofs.Addresses.{range-none, range-odd, range-some}
use Rattle.lock_files.proofs.Parts.{has-from_contains}
use Rattle.lock_files.proofs.specifier.tagged.Goals.{then-contains-via-then-contains}
use Rattle.lock_files.proofs.specifier.tagged.Goals.{then-contains-via-else-contains+then-contains-2}
use Rattle.lock_files.proofs.specifier.tagged.Goals as goal

pub returns-in_err-behind : goal.returns-in_err-behind
returns-in_err-behind c =
    let text = c.args.text.now in
    subst (λ o. IsRangeNamed text (option_map (λ t. t.now) o)) (sym c.from_residual.ensures)
    (range-none text c.in_err-behind.ensures.cases)

pub returns-then-contains : goal.returns-then-contains
returns-then-contains c =
    let text = c.args.text.now in
    let before = c.in_ok-behind.field-0-0.now in
    let range = c.in_ok-behind.behind.now in
    let one = has-from_contains 37 range c.contains.result (omega arith) c.contains.ensures.cases in
    elim c.then-contains.branch [
      | then-contains-via-then-contains w ↦
          range-odd text before range c.in_ok-behind.ensures.cases (inl (sym one ∙ w.if-contains.true))
      | then-contains-via-else-contains+then-contains-2 w ↦
          let two = w.contains-else-contains in
          range-odd text before range c.in_ok-behind.ensures.cases
          (inr ((contains_text two.result (codes "::") range two.ensures.cases).0 w.if-contains-2.true))
    ]

pub returns : goal.returns
returns c =
    let text = c.args.text.now in
    let before = c.in_ok-behind.field-0-0.now in
    let range = c.in_ok-behind.behind.now in
    let one = has-from_contains 37 range c.contains.result (omega arith) c.contains.ensures.cases in
    let two = c.contains-else-contains in
    range-some text before range c.in_ok-behind.ensures.cases (sym one ∙ c.if-contains.false)
    (iff_false (contains_text two.result (codes "::") range two.ensures.cases) c.if-contains-2.false)
