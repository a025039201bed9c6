use Rattle.std.proofs.Common.{arith, codes, inl, inr}
use Rattle.std.proofs.lemmas.Bool.Decides.{nat_tests}
use Rattle.std.proofs.lemmas.Str.Pattern.{contains_text}
use Rattle.lock_check.proofs.reading.may_differ.Goals as goal

pub returns-then-contains : goal.returns-then-contains
returns-then-contains c =
    let star = contains_text c.contains.result (codes "*") c.args.text.now c.contains.ensures.cases in
    (λ is. inl (star.0 is), λ _. c.if-contains.true)

pub returns-else-contains : goal.returns-else-contains
returns-else-contains c =
    let star = contains_text c.contains.result (codes "*") c.args.text.now c.contains.ensures.cases in
    (λ is. inr (grind (arith, nat_tests)), λ has. elim has [ inl s ↦ let on = star.1 s in absurd (cc) | inr long ↦ grind (arith, nat_tests) ])
