use Rattle.std.proofs.Common.{◌∙◌, ap, arith, not, sym}
use Rattle.std.proofs.lemmas.Bool.{not-false, not-true}
use Rattle.lock_files.proofs.Addresses.{no_two_parts, the_parts, two_parts}
use Rattle.lock_files.proofs.Npm.{nil}
use Rattle.lock_files.proofs.Parts.{cut_at, filled, has-from_contains, uncut}
use Rattle.lock_files.proofs.specifier.has_two_parts.Goals.{then-not-is_empty, else-not-is_empty}
use Rattle.lock_files.proofs.specifier.has_two_parts.Goals as goal

pub returns-in-None : goal.returns-in-None
returns-in-None c =
    let text = c.args.text.now in
    let never = no_two_parts text (uncut 47 text (omega arith) c.in-None.ensures.cases) in
    (λ is. absurd (cc), λ is. absurd (never is))

pub returns-then-not-is_empty-2 : goal.returns-then-not-is_empty-2
returns-then-not-is_empty-2 c =
    let text = c.args.text.now in
    let user = c.in-Some.user.now in
    let project = c.in-Some.project.now in
    let cut = cut_at 47 text user project (omega arith) c.in-Some.ensures.cases in
    let one = has-from_contains 47 project c.contains.result (omega arith) c.contains.ensures.cases in
    elim c.if-not-is_empty.branch [
      | then-not-is_empty w ↦
          let second = w.is_empty-then-not-is_empty in (
            λ is. two_parts text user project cut (filled user (sym c.is_empty.ensures ∙ w.if-not-is_empty.true))
                (filled project (sym second.ensures
                ∙ not-true second.result (sym w.value-is ∙ c.if-not-is_empty-2.true)))
                (sym one ∙ not-true c.contains.result is),
            λ is. ap not (one ∙ (the_parts text user project cut is).2),
          )
      | else-not-is_empty w ↦
          let is = w.value-is in let some = w.if-not-is_empty.false in let yes = c.if-not-is_empty-2.true in absurd (cc)
    ]

pub returns-else-not-is_empty-2 : goal.returns-else-not-is_empty-2
returns-else-not-is_empty-2 c =
    let text = c.args.text.now in
    let user = c.in-Some.user.now in
    let project = c.in-Some.project.now in
    let cut = cut_at 47 text user project (omega arith) c.in-Some.ensures.cases in
    let no = c.if-not-is_empty-2.false in
    elim c.if-not-is_empty.branch [
      | then-not-is_empty w ↦
          let second = w.is_empty-then-not-is_empty in
          let none = nil project (sym second.ensures ∙ not-false second.result (sym w.value-is ∙ no)) in
          (λ is. absurd (cc), λ is. absurd ((the_parts text user project cut is).1 none))
      | else-not-is_empty w ↦
          let none = nil user (sym c.is_empty.ensures ∙ w.if-not-is_empty.false) in
          (λ is. absurd (cc), λ is. absurd ((the_parts text user project cut is).0 none))
    ]
